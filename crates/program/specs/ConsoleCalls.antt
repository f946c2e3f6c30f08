-- What a call of a console leaves: what it prints, and what it says of that.
use Rattle.std.specs.Prelude.{◌≡◌, ℕ, Bool, true, false, List, Option, Some, Result, Ok, Err, String}
use Rattle.std.specs.Global.{Global}
use Rattle.std.specs.Io.KnownBytes.{Appends}
use Rattle.script.specs.Streams.{Output, AppendsFirst, counted}
use Rattle.program.specs.ConsoleAnswers.{Heard, read, nothing, verdict}
use Rattle.program.specs.ConsoleLines.{begun, owes}
use Rattle.program.specs.declared.console_client.answers.Verdict.{Verdict}
use Rattle.program.specs.declared.console_client.fault.CallFault.{CallFault}
use Rattle.program.specs.declared.console_client.fault.CallFault.TheVariants.{NoMemory, Connect, Poll, Read}
use Rattle.program.specs.declared.console_client.fault.CallFault.TheVariants.{Write, Lost}

-- a write of what came failed
abbrev pub is_write_failed : {A : Type 0} → Result A CallFault → Bool
is_write_failed (Ok x) = false
is_write_failed (Err NoMemory) = false
is_write_failed (Err (Connect why)) = false
is_write_failed (Err Poll) = false
is_write_failed (Err Read) = false
is_write_failed (Err Write) = true
is_write_failed (Err Lost) = false

-- what came is printed, in order and no more; if a write failed, its first octets are
abbrev pub Prints : (has_failed : Bool) → (came : List ℕ) → (old new : Output) → Type 0
Prints false came old new = Appends old.written new.written came × (new.failures ≡ old.failures)
Prints true came old new = AppendsFirst old.written new.written came × (new.failures ≡ counted old.failures)

-- what came was read and printed
pub record Comes (has_failed : Bool) (came : List ℕ) (heard heard_new : Heard) (old new : Output) : Type 0 where
  pub hears : heard_new ≡ read came heard
  pub prints : Prints has_failed came old new

-- A call that lasted until the connection ended is judged by what came, by whether all was written, and by how many
-- answers were due: then as many as were asked for, if that is known.
pub record Judges (asked : Option ℕ) (came : List ℕ) (result : Result Verdict CallFault) : Type 0 where
  pub is_whole : Bool
  pub due : ℕ
  pub says : verdict is_whole due (read came nothing) ≡ result
  pub all : is_whole ≡ true → (most : ℕ) → asked ≡ Some most → due ≡ most

-- nothing is said of a call that came to no good end
abbrev pub IsJudged : (asked : Option ℕ) (came : List ℕ) → Result Verdict CallFault → Type 0
IsJudged asked came (Ok told) = Judges asked came (Ok told)
IsJudged asked came (Err fault) = Unit {0}

-- a call prints what came, and is judged by that
pub record Calls (words : List (String Global)) (known : Option (List ℕ)) (result : Result Verdict CallFault)
    (old new : Output) : Type 0 where
  pub came : List ℕ
  pub prints : Prints (is_write_failed result) came old new
  pub judged : IsJudged (owes known (begun words)) came result
