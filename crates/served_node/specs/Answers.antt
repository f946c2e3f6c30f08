-- What a client is answered.
use Rattle.std.specs.Prelude.{◌≡◌, ℕ, Bool, List, Result, Ok, Err}
use Rattle.std.specs.Io.KnownBytes.{Appends}
use Rattle.exchange.specs.KeptQueues.{kept}
use Rattle.exchange.specs.Calls.{Kept}
use Rattle.script.specs.Asking.{Asked}
use Rattle.script.specs.Doing.{printed, done}
use Rattle.script.specs.Streams.{Output, AppendsFirst, failures_after}
use Rattle.script.specs.declared.sink.WriteFailed.{WriteFailed}

-- the octets that wait to be written to a client, and how many writes there was no room for
pub record Waiting : Type 0 where
  pub octets : List ℕ
  pub failures : ℕ

-- the text went out, or the first of it if the write failed
abbrev pub Answers : List ℕ → Result Unit WriteFailed → (output output_new : Output) → Type 0
Answers text (Ok x) output output_new = Appends output.written output_new.written text
Answers text (Err failed) output output_new = AppendsFirst output.written output_new.written text

-- a line of a script was done, whether memory was refused for it or not; the state after it and the text are those of a
-- script
abbrev pub IsAnswered : Asked → Kept → Result Unit WriteFailed → Kept → (output output_new : Output) → Type 0
IsAnswered asked s result after output output_new =
    (lacks_memory : Bool) × (after ≡ done kept lacks_memory asked s)
    × Answers (printed kept lacks_memory asked s) result output output_new
    × (output_new.failures ≡ failures_after output.failures result)
