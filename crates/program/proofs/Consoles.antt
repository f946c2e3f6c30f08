-- What the program does with a file whose console is told something.
use Rattle.std.proofs.Common.{◌≡◌, ℕ, List, Ok, Err, Some, refl, subst, inl, inr}
use Rattle.std.specs.Prelude.{String}
use Rattle.std.specs.Global.{Global}
use Rattle.script.specs.Streams.{Input, Output}
use Rattle.program.specs.Words.{Task, FileTell, asked}
use Rattle.program.specs.Folders.{FileRead}
use Rattle.program.specs.Program.{Streams, streams, EndsAtFile}
use Rattle.program.specs.Telling.{TellsDocument, TellsFile}
use Rattle.program.specs.Tasks.{DoesTask, Does}
use Rattle.program.specs.declared.program.Status.{Status}

-- a document was found, and nothing was written or explained before
pub tells-from : (file octets : List ℕ) (input : Input) (output_mid output errors_mid errors : Output) (new : Streams) (ended : Status)
    → output_mid ≡ output → errors_mid ≡ errors
    → TellsDocument file octets (streams input output_mid errors_mid) new ended → TellsFile file (Ok octets) (streams input output errors) new ended
tells-from file octets input output_mid output errors_mid errors new ended w e h =
    inl (subst (λ (o : Output). TellsDocument file octets (streams input o errors) new ended) w
    (subst (λ (o : Output). TellsDocument file octets (streams input output_mid o) new ended) e h))

-- a file that is no document
pub ends-tell : (file : List ℕ) (read : FileRead) (input : Input) (output output_new errors errors_new : Output) (ended : Status)
    → EndsAtFile file read output output_new errors errors_new ended → TellsFile file read (streams input output errors) (streams input output_new errors_new) ended
ends-tell file (Ok octets) input output output_new errors errors_new ended h = inr (h, refl)
ends-tell file (Err fault) input output output_new errors errors_new ended h = (h, refl)

-- words that ask for it
by-task : (task : Task) (file : List ℕ) (line : List (List ℕ)) (reads : List ℕ → FileRead → Type 0) (old new : Streams) (ended : Status)
    → FileTell file line ≡ task → (read : FileRead) × reads file read × TellsFile file read old new ended → DoesTask task reads old new ended
by-task task file line reads old new ended e told = rw (← e) told

pub does-tell : (given : List (String Global)) (file : List ℕ) (line : List (List ℕ)) (reads : List ℕ → FileRead → Type 0) (old new : Streams) (ended : Status)
    → Some (FileTell file line) ≡ Some (asked given) → (read : FileRead) × reads file read × TellsFile file read old new ended → Does given reads old new ended
does-tell given file line reads old new ended e told = inl (by-task (asked given) file line reads old new ended (cc e) told)
