-- What the program does for its arguments.
use Rattle.std.specs.Prelude.{◌≡◌, ◌⊎◌, ℕ, List, codes, String, true}
use Rattle.std.specs.Global.{Global}
use Rattle.settings_file.specs.Faults.{no_memory}
use Rattle.script.specs.BuiltIn.{built_in_settings}
use Rattle.program.specs.Explaining.{IsTold, usage_text}
use Rattle.program.specs.Folders.{FileRead}
use Rattle.program.specs.Program.{Streams, EndsWith, OnlyPrints, HasNoMemory, NoText, version_line}
use Rattle.program.specs.Program.{RunsNode, RunsFile, ChecksFile, ServesFile, RunsLab, RunsNetwork}
use Rattle.program.specs.Telling.{TellsFile}
use Rattle.program.specs.declared.program.Status.{Status}
use Rattle.program.specs.declared.program.Status.TheVariants as status
use Rattle.program.specs.Words.{Task, BuiltInRun, FileRun, FileCheck, LabRun, DatagramLabRun, NetworkRun, FileServe}
use Rattle.program.specs.Words.{FileTell, Help, Version, OtherWords, asked, take_memory}

-- what the program does for a task, if a file is read as `reads` says
abbrev pub DoesTask : Task → (List ℕ → FileRead → Type 0) → Streams → Streams → Status → Type 0
DoesTask BuiltInRun reads old new ended =
    RunsNode (λ settings. settings ≡ built_in_settings) (λ why. why ≡ no_memory) NoText old new ended
DoesTask (FileRun file) reads old new ended =
    (read : FileRead) × reads file read × RunsFile file read old new ended
DoesTask (FileCheck file) reads old new ended =
    (read : FileRead) × reads file read
    × ChecksFile file read old.output new.output old.errors new.errors ended × (new.input ≡ old.input)
DoesTask (LabRun near far) reads old new ended = RunsLab near far reads old new ended
DoesTask (DatagramLabRun near far) reads old new ended = RunsLab near far reads old new ended
DoesTask (NetworkRun files) reads old new ended = RunsNetwork files reads old new ended
DoesTask (FileServe file) reads old new ended =
    (read : FileRead) × reads file read
    × ServesFile file read old.output new.output old.errors new.errors ended × (new.input ≡ old.input)
DoesTask (FileTell file words) reads old new ended =
    (read : FileRead) × reads file read × TellsFile file read old new ended
DoesTask Help reads old new ended = OnlyPrints status.Done usage_text old new ended
DoesTask Version reads old new ended = OnlyPrints status.Done version_line old new ended
DoesTask OtherWords reads old new ended =
    EndsWith status.Refused (codes "usage\n") old.output new.output ended × (new.input ≡ old.input)
    × IsTold usage_text old.errors new.errors

-- what the program does for its arguments: what they ask for, or memory runs out for them, if they take any
abbrev pub Does : List (String Global) → (List ℕ → FileRead → Type 0) → Streams → Streams → Status → Type 0
Does words reads old new ended =
    DoesTask (asked words) reads old new ended ⊎ ((take_memory words ≡ true) × HasNoMemory old new ended)
