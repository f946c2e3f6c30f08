-- The law of the search at one queue whose numbers wrap round: a definition by plain integers makes it false here.
use Rattle.std.specs.Prelude.{◌≡◌, ◌-◌, ◌^◌, [], ◌∷◌, Some}
use Rattle.signalling_types.specs.Message.{Message}
use Rattle.link.specs.Queue.{Queue, IsQueue, Names, named_count}

abbrev pub message : Message
message = record { sio = 5; sif = 0 ∷ 0 ∷ 0 ∷ 0 ∷ [] }

-- two messages were sent, the first with the last number and the second with number 0
abbrev pub example : Queue
example = record { base = 2 ^ 24 - 1; all = message ∷ message ∷ []; confirmed = 0; sent = 2; received = 0 }

-- number 0 names both
abbrev pub is_queue : Type 0
is_queue = IsQueue 2 example

abbrev pub zero_names_both : Type 0
zero_names_both = Names example 0 2

-- so the search finds both
abbrev pub search_finds_both : Type 0
search_finds_both = named_count example 0 ≡ Some 2
