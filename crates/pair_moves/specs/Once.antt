-- "Exactly once": each message of a user part comes to the far node's once, or it waits.
use Rattle.std.specs.Prelude.{◌≡◌, Bool, ◌+◌, ◌&&◌, count_by}
use Rattle.signalling_types.specs.Message.{Message}
use Rattle.pair_moves.specs.Sayings.{Saying, is_user_message}
use Rattle.pair_moves.specs.Ends.{Pair}
use Rattle.pair_moves.specs.Laws.{under_way}

-- user messages that pass a test
abbrev pub user : (Message → Saying) → (Message → Bool) → Message → Bool
user read test m = is_user_message (read m) && test m

-- of every kind of user message, as many were accepted at the near node as the far node received, together with those
-- under way
abbrev pub EachOnce : (Message → Saying) → Pair → Type 0
EachOnce read p =
    (test : Message → Bool) →
    count_by (user read test) p.near.accepted
    ≡ count_by (user read test) p.far.received + under_way (user read test) p
