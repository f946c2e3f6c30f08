-- Which messages of a queue wait after a number.
use Rattle.std.specs.Prelude.{ℕ, List, drop, unwrap_or}
use Rattle.signalling_types.specs.Message.{Message}
use Rattle.link.specs.Queue.{Queue, named_count}
use Rattle.link.specs.Counts.{Counts, kept_newly_confirmed}

-- the messages of a queue after the count that a number names; if it names none, all that aren't confirmed
abbrev pub behind_number : Queue → (number : ℕ) → List Message
behind_number q number = drop (unwrap_or (named_count q number) q.confirmed) q.all

-- the same, by what is kept of a queue
abbrev pub kept_behind_number : Counts → List Message → (number : ℕ) → List Message
kept_behind_number k lane number = drop (unwrap_or (kept_newly_confirmed k number) 0) lane
