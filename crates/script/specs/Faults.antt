-- How a script ends before its end.
use Rattle.std.specs.Prelude.{◌≡◌, ℕ, ◌+◌, ◌-◌, ◌^◌, ◌≤◌, min, Result, Ok, Err}
use Rattle.script.specs.Streams.{Input, Output, counted}
use Rattle.script.specs.declared.fault.TheConstants.{READS}
use Rattle.script.specs.declared.fault.ScriptFault.{ScriptFault}
use Rattle.script.specs.declared.fault.ScriptFault.TheVariants.{Read, Write, Line, TooManyReads, NoMemory}

abbrev pub fault_number : ScriptFault → ℕ
fault_number Read = 1
fault_number Write = 2
fault_number (Line line) = 3
fault_number TooManyReads = 4
fault_number NoMemory = 5

-- how many reads failed, with the one that ended the script, if one did
abbrev pub reads_failed : {A : Type 0} → ℕ → Result A ScriptFault → ℕ
reads_failed n (Err Read) = counted n
reads_failed n result = n

-- how many writes failed, with the one that ended the script, if one did
abbrev pub writes_failed : {A : Type 0} → ℕ → Result A ScriptFault → ℕ
writes_failed n (Err Write) = counted n
writes_failed n result = n

-- a script that a line ended, by its fault or by a write that failed, if it ended
abbrev pub EndsAtLine : {A : Type 0} → Result A ScriptFault → Type 0
EndsAtLine (Ok x) = Unit {0}
EndsAtLine (Err (Line line)) = Unit {0}
EndsAtLine (Err Write) = Unit {0}
EndsAtLine (Err other) = ⊥

-- at most 4,194,304 reads (READS) were made, and exactly that many if the script's end wasn't found (a count of 64 bits
-- stays at its greatest value)
abbrev pub MakesReads : {A : Type 0} → Result A ScriptFault → ℕ → ℕ → Type 0
MakesReads (Err TooManyReads) old new = (new ≤ old + READS) × (min (old + READS) (2 ^ 64 - 1) ≤ new)
MakesReads result old new = new ≤ old + READS

-- the calls of the streams in a run that ended like this
pub record Counts (result : Result Unit ScriptFault) (input input_new : Input) (output output_new : Output)
    : Type 0 where
  pub reads_made : MakesReads result input.reads input_new.reads
  pub reads_failed : input_new.failures ≡ reads_failed input.failures result
  pub writes_failed : output_new.failures ≡ writes_failed output.failures result
