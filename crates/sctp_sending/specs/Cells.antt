-- The messages of the code as messages, and the cells of a ring in order.
use Rattle.std.specs.Prelude.{ℕ, zero, suc, ◌+◌, ◌%◌, List, [], ◌∷◌, ◌++◌}
use Rattle.sctp_sending.specs.declared.message.Message.{Message}
use Rattle.sctp_sending.specs.Outgoing as out
use Rattle.sctp_sending.specs.Outgoing.{Outgoing, outgoing_at}

abbrev pub given_as : Message → out.Message
given_as m = record { stream = m.stream; protocol = m.protocol; octets = m.octets.now }

-- how many cells a ring has
abbrev pub cells_of_ring : ℕ
cells_of_ring = 256

-- the place of the cell at a distance from another
abbrev pub place_at : (start distance : ℕ) → ℕ
place_at start distance = (start + distance) % cells_of_ring

-- what this many cells hold, from an index on
unfoldable pub window : (cells : List Outgoing) (start count : ℕ) → List Outgoing
window cells start zero = []
window cells start (suc n) = window cells start n ++ outgoing_at cells (place_at start n) ∷ []
