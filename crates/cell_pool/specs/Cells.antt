-- Messages in the cells of a row.
use Rattle.std.specs.Prelude.{ℕ, List, [], map, slice_index_or}
use Rattle.signalling_types.specs.Message.{Message}

-- the messages of each list in order, and how many cells there are, free ones among them
pub record Occupied : Type 0 where
  pub lists : List (List Message)
  pub cells : ℕ

-- the message of one cell
abbrev pub message_at : List Message → ℕ → Message
message_at cells n = slice_index_or cells n (record { sio = 0; sif = [] })

-- the messages of some cells
abbrev pub messages_at : List Message → List ℕ → List Message
messages_at cells numbers = map (message_at cells) numbers

-- the lists whose cells the rings name
abbrev pub lists_at : List Message → List (List ℕ) → List (List Message)
lists_at cells rings = map (messages_at cells) rings
