-- The same completion, by what is kept of a queue: its counts, and its messages that aren't confirmed.
use Rattle.std.specs.Prelude.{◌≡◌, ℕ, List, [], take, drop, Option, Some, None}
use Rattle.std.specs.Option.{option_and_then}
use Rattle.signalling_types.specs.Message.{Message}
use Rattle.link.specs.Counts.{Counts, kept_newly_confirmed}
use Rattle.link.specs.Keeps.{Keeps}
use Rattle.link.specs.Queue.{Queue}
use Rattle.changeover.specs.Changeover.{users_of, managements_of, moved, queued_anew, lost}

-- how many of the kept messages the peer accepted
abbrev pub kept_accepted_count : Counts → Option ℕ → Option ℕ
kept_accepted_count k number = option_and_then (kept_newly_confirmed k) number

-- how many of them the changeover is done with: those that the peer accepted or, without a reasonable number, those
-- that were sent
abbrev pub kept_done : Counts → (count : Option ℕ) → ℕ
kept_done k (Some count) = count
kept_done k None = k.outstanding

abbrev pub kept_done_with : Counts → (number : Option ℕ) → ℕ
kept_done_with k number = kept_done k (kept_accepted_count k number)

-- how many of them are in doubt, if the number isn't reasonable: those that were sent
abbrev pub kept_doubted : Counts → (count : Option ℕ) → Option ℕ
kept_doubted k (Some count) = None
kept_doubted k None = Some k.outstanding

-- the messages from there on; without a reasonable number, those that weren't sent
abbrev pub kept_behind : Counts → List Message → Option ℕ → List Message
kept_behind k lane (Some count) = drop count lane
kept_behind k lane None = drop k.outstanding lane

-- without a reasonable number, the messages that were sent
abbrev pub kept_in_doubt : Counts → List Message → Option ℕ → List Message
kept_in_doubt k lane (Some count) = []
kept_in_doubt k lane None = take k.outstanding lane

abbrev pub kept_moved : Counts → List Message → Option ℕ → List Message
kept_moved k lane number = users_of (kept_behind k lane (kept_accepted_count k number))

abbrev pub kept_queued_anew : Counts → List Message → Option ℕ → List Message
kept_queued_anew k lane number = managements_of (kept_behind k lane (kept_accepted_count k number))

abbrev pub kept_lost : Counts → List Message → Option ℕ → List Message
kept_lost k lane number = users_of (kept_in_doubt k lane (kept_accepted_count k number))

-- what is kept of a queue completes as the queue does
abbrev pub kept_completes_alike : Type 0
kept_completes_alike =
    (window : ℕ) (k : Counts) (lane : List Message) (q : Queue) (number : Option ℕ) → Keeps window k lane q →
    (kept_moved k lane number ≡ moved q number)
    × (kept_queued_anew k lane number ≡ queued_anew q number)
    × (kept_lost k lane number ≡ lost q number)
