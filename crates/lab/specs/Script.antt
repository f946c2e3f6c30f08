-- How much of a script is read, and how it ends.
use Rattle.std.specs.Prelude.{◌≡◌, ◌≤◌, ℕ, List, length, Option, Result, Ok, Err}
use Rattle.std.specs.Io.KnownBytes.{Consumes}
use Rattle.script.specs.Streams.{Input, Output}
use Rattle.script.specs.declared.fault.TheConstants.{READS}
use Rattle.script.specs.declared.fault.ScriptFault.{ScriptFault}
use Rattle.script.specs.declared.fault.ScriptFault.TheVariants.{TooManyReads, NoMemory}

-- octets were read, at least so many
pub record ReadsAtLeast (least : ℕ) (left left_new : Option (List ℕ)) : Type 0 where
  pub octets : List ℕ
  pub many : least ≤ length octets
  pub consumed : Consumes left left_new octets

-- where the script's end wasn't found, each read gave an octet at least
abbrev pub ReadsOn : Result Unit ScriptFault → (left left_new : Option (List ℕ)) → Type 0
ReadsOn (Err TooManyReads) left left_new = ReadsAtLeast READS left left_new
ReadsOn result left left_new = Unit {0}

-- a script that was begun: it didn't end for want of memory
abbrev pub EndsInScript : Result Unit ScriptFault → Type 0
EndsInScript (Err NoMemory) = ⊥
EndsInScript result = Unit {0}

-- where memory was refused, no node has changed, and nothing was read or written
abbrev pub LeavesAll : {N : Type 0} → Result Unit ScriptFault → (nodes nodes_new : N) → (input input_new : Input)
    → (output output_new : Output) → Type 0
LeavesAll (Err NoMemory) nodes nodes_new input input_new output output_new =
    (nodes_new ≡ nodes) × (input_new ≡ input) × (output_new ≡ output)
LeavesAll (Ok x) nodes nodes_new input input_new output output_new = Unit {0}
LeavesAll (Err other) nodes nodes_new input input_new output output_new = Unit {0}
