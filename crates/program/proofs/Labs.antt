-- A lab script that ended for lack of memory, or otherwise, and how the program ends after it.
use Rattle.std.proofs.Common.{◌≡◌, ◌≢◌, ◌⊎◌, ℕ, List, Result, Ok, Err, Some, refl, subst, inl, inr}
use Rattle.std.specs.Prelude.{OnOk, String}
use Rattle.std.specs.Global.{Global}
use Rattle.std.specs.Io.KnownBytes.{IsAtEnd}
use Rattle.settings_file.specs.Faults.{no_memory}
use Rattle.settings.specs.Configuration.{Configuration}
use Rattle.lab.specs.Script.{LeavesAll}
use Rattle.program.specs.Explaining.{IsLabEndExplained}
use Rattle.script.specs.Faults.{Counts}
use Rattle.program.specs.Folders.{FileRead}
use Rattle.program.specs.Program.{Streams, streams, told, status_after, EndsWith, EndsAtFile, HasNoMemory, RunsLabScript, RunsNodes, RunsLab}
use Rattle.program.specs.Tasks.{DoesTask, Does}
use Rattle.script.specs.Streams.{Input, Output}
use Rattle.program.specs.declared.program.Status.{Status}
use Rattle.program.specs.declared.program.Status.TheVariants as status
use Rattle.script.specs.declared.fault.ScriptFault.{ScriptFault}
use Rattle.script.specs.declared.fault.ScriptFault.TheVariants.{Read, Write, Line, TooManyReads, NoMemory}
use Rattle.program.specs.Words.{Task, LabRun, DatagramLabRun, asked}

pub lacks_memory : (script : Result Unit ScriptFault) → (script ≡ Err NoMemory) ⊎ (script ≢ Err NoMemory)
lacks_memory (Err NoMemory) = inl refl
lacks_memory (Ok x) = inr (λ e. cc e)
lacks_memory (Err Read) = inr (λ e. cc e)
lacks_memory (Err Write) = inr (λ e. cc e)
lacks_memory (Err (Line line)) = inr (λ e. cc e)
lacks_memory (Err TooManyReads) = inr (λ e. cc e)

-- what a lab leaves as it was for want of memory
pub leaves-input : {N : Type 0} → (script : Result Unit ScriptFault) (nodes nodes_new : N) (input input_new : Input) (output output_new : Output)
    → LeavesAll script nodes nodes_new input input_new output output_new → script ≡ Err NoMemory → input_new ≡ input
leaves-input (Err NoMemory) nodes nodes_new input input_new output output_new left e = left.1
leaves-input (Ok x) nodes nodes_new input input_new output output_new left e = cc e
leaves-input (Err Read) nodes nodes_new input input_new output output_new left e = cc e
leaves-input (Err Write) nodes nodes_new input input_new output output_new left e = cc e
leaves-input (Err (Line line)) nodes nodes_new input input_new output output_new left e = cc e
leaves-input (Err TooManyReads) nodes nodes_new input input_new output output_new left e = cc e

pub leaves-output : {N : Type 0} → (script : Result Unit ScriptFault) (nodes nodes_new : N) (input input_new : Input) (output output_new : Output)
    → LeavesAll script nodes nodes_new input input_new output output_new → script ≡ Err NoMemory → output_new ≡ output
leaves-output (Err NoMemory) nodes nodes_new input input_new output output_new left e = left.2
leaves-output (Ok x) nodes nodes_new input input_new output output_new left e = cc e
leaves-output (Err Read) nodes nodes_new input input_new output output_new left e = cc e
leaves-output (Err Write) nodes nodes_new input input_new output output_new left e = cc e
leaves-output (Err (Line line)) nodes nodes_new input input_new output output_new left e = cc e
leaves-output (Err TooManyReads) nodes nodes_new input input_new output output_new left e = cc e

pub lab-ended : (script : Result Unit ScriptFault) (old : Streams) (input : Input) (output output_new errors : Output) (ended : Status)
    → OnOk script (IsAtEnd input.remaining)
    → Counts script old.input input old.output output
    → (script ≡ Err NoMemory → input ≡ old.input)
    → (script ≡ Err NoMemory → output ≡ old.output)
    → (script ≡ Err NoMemory → EndsWith status.Start (told no_memory) output output_new ended × (errors ≡ old.errors))
    → (script ≢ Err NoMemory → ended ≡ status_after script)
    → (script ≢ Err NoMemory → output_new ≡ output)
    → IsLabEndExplained script old.errors errors
    → RunsLabScript old (streams input output_new errors) ended ⊎ HasNoMemory old (streams input output_new errors) ended
lab-ended script old input output output_new errors ended whole counts unread unwritten memory by kept explained =
    elim (lacks_memory script) [
      | inl e ↦ inr (rw (← unwritten e) (memory e).0, unread e, (memory e).1)
      | inr n ↦ inl (record {
        script = script;
        begun = n;
        whole = whole;
        counts = rw (kept n) counts;
        status = by n;
        explained = explained;
      })
    ]

-- nodes that begin after an output that is unchanged
pub output-kept : (near far : List ℕ) (near_settings far_settings : Configuration) (input : Input) (output old errors : Output) (new : Streams) (ended : Status)
    → output ≡ old
    → RunsNodes near far near_settings far_settings (streams input output errors) new ended
    → RunsNodes near far near_settings far_settings (streams input old errors) new ended
output-kept near far near_settings far_settings input output old errors new ended e ran = rw (← e) ran

-- the same where the second file has no settings
pub ends-kept : (file : List ℕ) (read : FileRead) (output old new errors errors_new : Output) (ended : Status) → output ≡ old
    → EndsAtFile file read output new errors errors_new ended → EndsAtFile file read old new errors errors_new ended
ends-kept file read output old new errors errors_new ended e h = subst (λ (o : Output). EndsAtFile file read o new errors errors_new ended) e h

-- words that ask for a lab
by-task : (task : Task) (near far : List ℕ) (reads : List ℕ → FileRead → Type 0) (old new : Streams) (ended : Status)
    → LabRun near far ≡ task → RunsLab near far reads old new ended → DoesTask task reads old new ended
by-task task near far reads old new ended e ran = rw (← e) ran

pub does-lab : (given : List (String Global)) (near far near_text far_text : List ℕ) (reads : List ℕ → FileRead → Type 0) (old new : Streams) (ended : Status)
    → near_text ≡ near → far_text ≡ far → Some (LabRun near far) ≡ Some (asked given)
    → RunsLab near_text far_text reads old new ended → Does given reads old new ended
does-lab given near far near_text far_text reads old new ended n f e ran =
    inl (by-task (asked given) near far reads old new ended (cc e) (rw (← n, ← f) ran))

-- the same over datagrams
by-datagram-task : (task : Task) (near far : List ℕ) (reads : List ℕ → FileRead → Type 0) (old new : Streams) (ended : Status)
    → DatagramLabRun near far ≡ task → RunsLab near far reads old new ended → DoesTask task reads old new ended
by-datagram-task task near far reads old new ended e ran = rw (← e) ran

pub does-datagram-lab : (given : List (String Global)) (near far near_text far_text : List ℕ) (reads : List ℕ → FileRead → Type 0) (old new : Streams) (ended : Status)
    → near_text ≡ near → far_text ≡ far → Some (DatagramLabRun near far) ≡ Some (asked given)
    → RunsLab near_text far_text reads old new ended → Does given reads old new ended
does-datagram-lab given near far near_text far_text reads old new ended n f e ran =
    inl (by-datagram-task (asked given) near far reads old new ended (cc e) (rw (← n, ← f) ran))
