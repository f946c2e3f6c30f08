-- What the program does with files and scripts, and its exit statuses.
use Rattle.std.specs.Prelude.{◌≡◌, ◌≢◌, ◌⊎◌, ℕ, List, [], ◌∷◌, ◌++◌, codes, None, Some, Result, Ok, Err, OnOk}
use Rattle.std.specs.Io.KnownBytes.{Appends, IsAtEnd}
use Rattle.toml.specs.Data.{Members}
use Rattle.settings.specs.Configuration.{Configuration}
use Rattle.settings_file.specs.Faults.{fault_line, no_memory}
use Rattle.settings_file.specs.declared.fault.SettingsFault.{SettingsFault}
use Rattle.settings.specs.Facing.{IsFacing}
use Rattle.settings.specs.Naming.{link_names}
use Rattle.exchange_rules.specs.First.{Abstract, first_state}
use Rattle.exchange_rules.specs.Queues.{whole}
use Rattle.settings_file.specs.Parsed.{AreDocument}
use Rattle.settings_file.specs.PlacedSentences.{ExplainsAll}
use Rattle.program.specs.Explaining.{IsToldOf, unread_sentence, IsWarned, IsWarnedOfValues, IsEndExplained, strangers_sentence, IsLabEndExplained}
use Rattle.script.specs.Faults.{Counts}
use Rattle.lab.specs.Network.{network_fault}
use Rattle.lab.specs.declared.network.NetworkFault.{NetworkFault}
use Rattle.program.specs.Network.{network_line, network_sentence}
use Rattle.program.specs.Folders.{FileRead, AreSettings, IsFault, AreServed, IsServerFault}
use Rattle.settings_file.specs.ServeFaults as server
use Rattle.settings_file.specs.declared.serve.fault.ServeFault.{ServeFault}
use Rattle.settings_file.specs.declared.serve.fault.ServeFault.TheVariants.{Settings}
use Rattle.script.specs.Runs.{Runs}
use Rattle.script.specs.Streams.{Input, Output, AppendsFirst, counted}
use Rattle.program.specs.declared.folder.FileFault.TheVariants as file_fault
use Rattle.script.specs.declared.fault.ScriptFault.{ScriptFault}
use Rattle.script.specs.declared.fault.ScriptFault.TheVariants as fault
use Rattle.program.specs.declared.program.Status.{Status}
use Rattle.program.specs.declared.program.Status.TheVariants as status

-- the streams of a program: its input, its output, and its standard error
pub record Streams : Type 0 where
  pub input : Input
  pub output : Output
  pub errors : Output

abbrev pub streams : Input → Output → Output → Streams
streams input output errors = record { input = input; output = output; errors = errors }

-- the exit statuses
abbrev pub status_number : Status → ℕ
status_number status.Done = 0
status_number status.Refused = 1
status_number status.Start = 2
status_number status.Line = 3
status_number status.Stream = 4

-- how the program ends after a script
abbrev pub status_after : {A : Type 0} → Result A ScriptFault → Status
status_after (Ok x) = status.Done
status_after (Err fault.Read) = status.Stream
status_after (Err fault.Write) = status.Stream
status_after (Err (fault.Line line)) = status.Line
status_after (Err fault.TooManyReads) = status.Stream
status_after (Err fault.NoMemory) = status.Start

-- a fault of settings, as it is printed
abbrev pub told : SettingsFault → List ℕ
told fault = fault_line fault ++ codes "\n"

-- the same for a fault of a server's settings
abbrev pub told_server : ServeFault → List ℕ
told_server fault = server.fault_line fault ++ codes "\n"

-- the name and the version of the program, as they are printed
abbrev pub version_line : List ℕ
version_line = codes "stp 0.1.0\n"

-- last lines were written, and the program ends like this; or its write failed
abbrev pub EndsWith : Status → List ℕ → Output → Output → Status → Type 0
EndsWith wanted lines output output_new ended =
    ((ended ≡ wanted) × Appends output.written output_new.written lines × (output_new.failures ≡ output.failures))
    ⊎ ((ended ≡ status.Stream) × AppendsFirst output.written output_new.written lines
    × (output_new.failures ≡ counted output.failures))

-- the script ran from the first state of a node with these settings, and the program ends by how it ended, which
-- standard error says
abbrev pub RunsScript : Configuration → Streams → Streams → Status → Type 0
RunsScript settings old new ended =
    (script : Result Unit ScriptFault) × (after : Abstract)
    × Runs whole script (first_state settings) after
    old.input.remaining new.input.remaining old.output.written new.output.written
    × Counts script old.input new.input old.output new.output × (ended ≡ status_after script)
    × IsEndExplained script old.errors new.errors

-- these lines are all that the program prints: nothing of the script is read, and nothing is written to standard error
abbrev pub OnlyPrints : Status → List ℕ → Streams → Streams → Status → Type 0
OnlyPrints wanted lines old new ended =
    EndsWith wanted lines old.output new.output ended × (new.input ≡ old.input) × (new.errors ≡ old.errors)

-- memory ran out before the script
abbrev pub HasNoMemory : Streams → Streams → Status → Type 0
HasNoMemory old new ended = OnlyPrints status.Start (told no_memory) old new ended

-- no text explains a fault of the built-in settings
abbrev pub NoText : SettingsFault → List ℕ → Type 0
NoText why text = ⊥

-- a node runs the script, or the fault of its settings is printed and explained, and nothing of the script is read
abbrev pub RunsNode : (Configuration → Type 0) → (SettingsFault → Type 0) → (SettingsFault → List ℕ → Type 0)
    → Streams → Streams → Status → Type 0
RunsNode IsGiven IsWrong IsSentence old new ended =
    ((settings : Configuration) × IsGiven settings × RunsScript settings old new ended)
    ⊎ ((why : SettingsFault) × IsWrong why × EndsWith status.Start (told why) old.output new.output ended
    × (new.input ≡ old.input) × IsToldOf (IsSentence why) old.errors new.errors)

-- for a file whose settings of a server have no fault, or that has none, `ok` is printed; otherwise their first fault,
-- and standard error explains all of them
abbrev pub ChecksServer : (file octets : List ℕ) → (output output_new errors errors_new : Output) → Status → Type 0
ChecksServer file octets output output_new errors errors_new ended =
    (AreServed octets × EndsWith status.Done (codes "ok\n") output output_new ended × (errors_new ≡ errors))
    ⊎ ((why : ServeFault) × IsServerFault octets why × EndsWith status.Start (told_server why) output output_new ended
    × IsToldOf (ExplainsAll file octets why) errors errors_new)

-- a file has these settings, and its warnings are written to standard error: of keys, and then of values
abbrev pub HasSettings : (file : List ℕ) → FileRead → Configuration → (errors errors_new : Output) → Type 0
HasSettings file (Ok octets) settings errors errors_new =
    AreSettings octets settings
    × (document : Members) × AreDocument octets document
    × (warned : Output) × IsWarned file errors warned × IsWarnedOfValues file document settings warned errors_new
HasSettings file (Err fault) settings errors errors_new = ⊥

-- how the program ends for a file that has no settings: its fault is printed and explained, after warnings; if the file
-- can't be read, nothing is printed, and standard error says why
abbrev pub EndsAtFile : (file : List ℕ) → FileRead → (output output_new errors errors_new : Output) → Status → Type 0
EndsAtFile file (Ok octets) output output_new errors errors_new ended =
    (why : SettingsFault) × IsFault octets why × EndsWith status.Start (told why) output output_new ended
    × (warned : Output) × IsWarned file errors warned
    × IsToldOf (ExplainsAll file octets (Settings why)) warned errors_new
EndsAtFile file (Err (file_fault.Unread why)) output output_new errors errors_new ended =
    (ended ≡ status.Stream) × (output_new ≡ output)
    × IsToldOf (λ text. text ≡ unread_sentence file why) errors errors_new
EndsAtFile file (Err file_fault.NoMemory) output output_new errors errors_new ended =
    EndsWith status.Start (told no_memory) output output_new ended × (errors_new ≡ errors)

-- the script ran from the first state of a node with the settings of a file, or memory ran out before it, after the
-- file's warnings; if the file has no settings, nothing of the script is read
abbrev pub RunsFile : (file : List ℕ) → FileRead → Streams → Streams → Status → Type 0
RunsFile file read old new ended =
    ((settings : Configuration) × (warned : Output) × HasSettings file read settings old.errors warned
    × (RunsScript settings (record old { errors = warned }) new ended
    ⊎ HasNoMemory (record old { errors = warned }) new ended))
    ⊎ (EndsAtFile file read old.output new.output old.errors new.errors ended × (new.input ≡ old.input))

-- if a file has settings of a node, those of its server are checked, after warnings; otherwise the program ends as it
-- does then
abbrev pub ChecksFile : (file : List ℕ) → FileRead → (output output_new errors errors_new : Output) → Status → Type 0
ChecksFile file (Ok octets) output output_new errors errors_new ended =
    ((settings : Configuration) × (warned : Output) × HasSettings file (Ok octets) settings errors warned
    × ChecksServer file octets output output_new warned errors_new ended)
    ⊎ EndsAtFile file (Ok octets) output output_new errors errors_new ended
ChecksFile file (Err fault) output output_new errors errors_new ended =
    EndsAtFile file (Err fault) output output_new errors errors_new ended

-- a file that is served has settings, and nothing is said of what a server does; or it has none, and the program ends
-- as it does then
abbrev pub ServesFile : (file : List ℕ) → FileRead → (output output_new errors errors_new : Output) → Status → Type 0
ServesFile file (Ok octets) output output_new errors errors_new ended =
    ((settings : Configuration) × AreSettings octets settings)
    ⊎ EndsAtFile file (Ok octets) output output_new errors errors_new ended
ServesFile file (Err fault) output output_new errors errors_new ended =
    EndsAtFile file (Err fault) output output_new errors errors_new ended

-- nodes that a lab joins face each other, and name their links alike
pub record AreJoined (near far : Configuration) : Type 0 where
  pub facing : IsFacing near far
  pub alike : link_names near ≡ link_names far

-- the lab script was begun, and the program ends by how it ended: Done only if it was read to its end, and Stream only
-- if a read or a write failed or no end was found in all of the reads
pub record RunsLabScript (old new : Streams) (ended : Status) : Type 0 where
  pub script : Result Unit ScriptFault
  pub begun : script ≢ Err fault.NoMemory
  pub whole : OnOk script (IsAtEnd new.input.remaining)
  pub counts : Counts script old.input new.input old.output new.output
  pub status : ended ≡ status_after script
  pub explained : IsLabEndExplained script old.errors new.errors

-- two nodes of files with these names run the lab script, or memory runs out before it; if they can't be joined, this
-- is printed and explained, and nothing of the script is read
abbrev pub RunsNodes : (near far : List ℕ) → (near_settings far_settings : Configuration) → Streams → Streams → Status
    → Type 0
RunsNodes near far near_settings far_settings old new ended =
    (AreJoined near_settings far_settings × (RunsLabScript old new ended ⊎ HasNoMemory old new ended))
    ⊎ (¬ (AreJoined near_settings far_settings)
    × EndsWith status.Start (codes "fault NotFacing\n") old.output new.output ended × (new.input ≡ old.input)
    × IsToldOf (λ text. text ≡ strangers_sentence near far) old.errors new.errors)

-- a file is read, and what comes next is done with its settings; if it has none, nothing of the script is read
abbrev pub ReadsFile : (file : List ℕ) → (List ℕ → FileRead → Type 0) → (Configuration → Streams → Type 0)
    → Streams → Streams → Status → Type 0
ReadsFile file reads Next old new ended =
    (read : FileRead) × reads file read
    × (((settings : Configuration) × (warned : Output) × HasSettings file read settings old.errors warned
    × Next settings (record old { errors = warned }))
    ⊎ (EndsAtFile file read old.output new.output old.errors new.errors ended × (new.input ≡ old.input)))

-- the near file is read, then the far one, and then their nodes run the lab script
abbrev pub RunsLab : (near far : List ℕ) → (List ℕ → FileRead → Type 0) → Streams → Streams → Status → Type 0
RunsLab near far reads old new ended =
    ReadsFile near reads
    (λ near_settings between. ReadsFile far reads
    (λ far_settings begun. RunsNodes near far near_settings far_settings begun new ended) between new ended)
    old new ended

-- a file has these settings, and standard error is warned of it
abbrev pub HasNode : (file : List ℕ) → (List ℕ → FileRead → Type 0) → Configuration → (errors errors_new : Output)
    → Type 0
HasNode file reads settings errors errors_new =
    (read : FileRead) × reads file read × HasSettings file read settings errors errors_new

-- files have these settings, one after the other
abbrev pub HaveSettings : (files : List (List ℕ)) → (List ℕ → FileRead → Type 0) → List Configuration
    → (errors errors_new : Output) → Type 0
HaveSettings [] reads [] errors errors_new = errors_new ≡ errors
HaveSettings (file ∷ files) reads (settings ∷ more) errors errors_new =
    (warned : Output) × HasNode file reads settings errors warned × HaveSettings files reads more warned errors_new
HaveSettings [] reads (settings ∷ more) errors errors_new = ⊥
HaveSettings (file ∷ files) reads [] errors errors_new = ⊥

-- memory runs out, and standard error is told nothing more
abbrev pub EndsForMemory : (output output_new errors errors_new : Output) → Status → Type 0
EndsForMemory output output_new errors errors_new ended =
    EndsWith status.Start (told no_memory) output output_new ended × (errors_new ≡ errors)

-- how the program ends where it has no node of a file: the file has no settings, or memory runs out for its node
abbrev pub EndsAtNode : (file : List ℕ) → (List ℕ → FileRead → Type 0) → (output output_new errors errors_new : Output)
    → Status → Type 0
EndsAtNode file reads output output_new errors errors_new ended =
    ((read : FileRead) × reads file read × EndsAtFile file read output output_new errors errors_new ended)
    ⊎ ((settings : Configuration) × (warned : Output) × HasNode file reads settings errors warned
    × EndsForMemory output output_new warned errors_new ended)

-- how the program ends while it reads files: the first of them have settings, and then it has no node of the next, or
-- memory runs out
abbrev pub EndsReading : (files : List (List ℕ)) → (List ℕ → FileRead → Type 0)
    → (output output_new errors errors_new : Output) → Status → Type 0
EndsReading files reads output output_new errors errors_new ended =
    (some more : List (List ℕ)) × (files ≡ some ++ more) × (settings : List Configuration) × (warned : Output)
    × HaveSettings some reads settings errors warned
    × (((file : List ℕ) × (rest : List (List ℕ)) × (more ≡ file ∷ rest)
    × EndsAtNode file reads output output_new warned errors_new ended)
    ⊎ EndsForMemory output output_new warned errors_new ended)

-- nodes that are a network run the lab script, or memory runs out before it; where they aren't one, their first fault
-- is printed and explained, and nothing of the script is read
abbrev pub RunsJoined : (files : List (List ℕ)) → List Configuration → Streams → Streams → Status → Type 0
RunsJoined files settings old new ended =
    ((network_fault settings ≡ None) × RunsLabScript old new ended)
    ⊎ ((fault : NetworkFault) × (network_fault settings ≡ Some fault)
    × EndsWith status.Start (network_line settings fault) old.output new.output ended × (new.input ≡ old.input)
    × IsToldOf (λ text. text ≡ network_sentence files settings fault) old.errors new.errors)

-- the files are read one after the other, and then their nodes run the lab script; or memory runs out
abbrev pub RunsNetwork : (files : List (List ℕ)) → (List ℕ → FileRead → Type 0) → Streams → Streams → Status → Type 0
RunsNetwork files reads old new ended =
    ((settings : List Configuration) × (warned : Output) × HaveSettings files reads settings old.errors warned
    × (RunsJoined files settings (record old { errors = warned }) new ended
    ⊎ HasNoMemory (record old { errors = warned }) new ended))
    ⊎ (EndsReading files reads old.output new.output old.errors new.errors ended × (new.input ≡ old.input))
