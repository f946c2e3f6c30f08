-- The laws of a completion at one queue: a wrong definition of what moves or is lost makes them false here.
use Rattle.std.specs.Prelude.{◌≡◌, ℕ, ◌-◌, ◌^◌, [], ◌∷◌, ◌++◌, take, drop, Option, Some, None}
use Rattle.signalling_types.specs.Message.{Message}
use Rattle.link.specs.Queue.{Queue, IsQueue}
use Rattle.changeover.specs.Changeover.{users_of, moved, lost}
use Rattle.changeover.specs.Laws.{confirmed_in_the_end}

-- a user message
abbrev pub message : ℕ → Message
message number = record { sio = 5; sif = 0 ∷ 0 ∷ 0 ∷ 0 ∷ number ∷ [] }

-- four messages, whose numbers wrap round after the first: one is confirmed, three were sent
abbrev pub example : Queue
example = record {
  base = 2 ^ 24 - 1;
  all = message 0 ∷ message 1 ∷ message 2 ∷ message 3 ∷ [];
  confirmed = 1;
  sent = 3;
  received = 0;
}

abbrev pub is_queue : Type 0
is_queue = IsQueue 2 example

-- `each_once` of this queue
abbrev pub each_once_of : (number : Option ℕ) → Type 0
each_once_of number =
    users_of (take (confirmed_in_the_end example number - example.confirmed) (drop example.confirmed example.all))
    ++ (lost example number ++ moved example number)
    ≡ users_of (drop example.confirmed example.all)

-- the peer accepted the message with number 0, the second
abbrev pub each_once_by_number : Type 0
each_once_by_number = each_once_of (Some 0)

-- it said nothing of what it accepted
abbrev pub each_once_without_number : Type 0
each_once_without_number = each_once_of None
