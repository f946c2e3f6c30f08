-- What the program does with a file of settings, by what its document says.
use Rattle.std.proofs.Common.{◌≡◌, ◌⊎◌, ℕ, List, Some, Ok, Err, refl, sym, ◌∙◌, subst, inl, inr}
use Rattle.std.proofs.lemmas.Option.{none-some, same_Some}
use Rattle.std.specs.Prelude.{String, string_bytes}
use Rattle.std.specs.Global.{Global}
use Rattle.std.specs.Str.{IsUtf8}
use Rattle.settings.specs.Configuration.{Configuration}
use Rattle.toml.specs.Data.{Members}
use Rattle.toml.specs.Parse.{parse_document}
use Rattle.settings_file.specs.Faults.{no_memory}
use Rattle.settings_file.specs.AllFaults.{AreAllFaults}
use Rattle.settings_file.specs.Parsed.{AreDocument, AreNoDocument}
use Rattle.settings_file.specs.PlacedSentences.{AreSentences, ExplainsAll}
use Rattle.settings_file.specs.Reading.{IsFirstFault}
use Rattle.settings_file.specs.Sentences.{Names}
use Rattle.settings_file.specs.declared.fault.SettingsFault.{SettingsFault}
use Rattle.settings_file.specs.declared.fault.SettingsFault.TheVariants.{Text}
use Rattle.settings_file.specs.declared.serve.fault.ServeFault.{ServeFault}
use Rattle.settings_file.specs.declared.serve.fault.ServeFault.TheVariants.{Settings}
use Rattle.settings_file.proofs.Readings.{none-parsed}
use Rattle.script.specs.Streams.{Input, Output}
use Rattle.program.specs.Explaining.{IsToldOf, AreFaultsExplained}
use Rattle.program.specs.Folders.{FileRead, IsFault}
use Rattle.program.specs.Program.{Streams, streams, HasNoMemory, RunsScript, RunsFile, ChecksServer, ChecksFile, HasSettings, EndsAtFile, ServesFile}
use Rattle.program.specs.Tasks.{DoesTask, Does}
use Rattle.program.specs.Words.{Task, FileRun, asked, task_of}
use Rattle.program.specs.declared.command_line.Words.TheVariants.{Run}
use Rattle.program.specs.declared.folder.FileFault.TheVariants.{Unread, NoMemory}
use Rattle.program.specs.declared.program.Status.{Status}

-- ---- faults

pub file-fault : (octets : List ℕ) (fault : SettingsFault) → IsUtf8 octets → (fault ≡ no_memory) ⊎ IsFirstFault octets fault → IsFault octets fault
file-fault octets fault utf8 (inl memory) = inl memory
file-fault octets fault utf8 (inr first) = inr (inr (utf8, first))

pub no-document : (octets : List ℕ) → AreNoDocument octets → IsFault octets Text
no-document octets (inl not) = inr (inl (not, refl))
no-document octets (inr none) = inr (inr (none.0, inl (none-parsed octets Text (refl, none.1))))

not-parsed : (octets : List ℕ) (t : Members) → AreNoDocument octets → IsUtf8 octets → parse_document octets ≡ Some t → ⊥
not-parsed octets t (inl not) utf8 parsed = not utf8
not-parsed octets t (inr none) utf8 parsed = none-some t (sym none.1 ∙ parsed)

pub names-explain : (file octets text : List ℕ) → AreNoDocument octets → Names file text → ExplainsAll file octets (Settings Text) text
names-explain file octets text none names = record { document = λ t utf8 parsed. absurd (not-parsed octets t none utf8 parsed); none = λ h. names }

pub told-explains : (file octets : List ℕ) (document : Members) (why : ServeFault) (errors errors_new : Output) → AreDocument octets document
    → IsToldOf (AreFaultsExplained file octets document why) errors errors_new → IsToldOf (ExplainsAll file octets why) errors errors_new
told-explains file octets document why errors errors_new are (inl (text, is, told)) =
    inl (
      text,
      record {
        document = λ t utf8 parsed. subst (λ (d : Members). (faults : List ServeFault) × AreAllFaults d why faults × AreSentences file octets faults text) (same_Some document t (sym are.parsed ∙ parsed)) (is.faults, is.all, is.explained);
        none = λ h. absurd (h document are.text are.parsed);
      },
      told,
    )
told-explains file octets document why errors errors_new are (inr kept) = inr kept

-- ---- a document was found, and nothing was written or told before

pub has-from : (file octets : List ℕ) (settings : Configuration) (mid old new : Output) → mid ≡ old
    → HasSettings file (Ok octets) settings mid new → HasSettings file (Ok octets) settings old new
has-from file octets settings mid old new e h = subst (λ (o : Output). HasSettings file (Ok octets) settings o new) e h

pub ends-from : (file octets : List ℕ) (output_mid output output_new errors_mid errors errors_new : Output) (ended : Status) → output_mid ≡ output → errors_mid ≡ errors
    → EndsAtFile file (Ok octets) output_mid output_new errors_mid errors_new ended → EndsAtFile file (Ok octets) output output_new errors errors_new ended
ends-from file octets output_mid output output_new errors_mid errors errors_new ended w e h =
    subst (λ (o : Output). EndsAtFile file (Ok octets) o output_new errors errors_new ended) w
    (subst (λ (o : Output). EndsAtFile file (Ok octets) output_mid output_new o errors_new ended) e h)

pub serves-from : (file octets : List ℕ) (output_mid output output_new errors_mid errors errors_new : Output) (ended : Status) → output_mid ≡ output → errors_mid ≡ errors
    → ServesFile file (Ok octets) output_mid output_new errors_mid errors_new ended → ServesFile file (Ok octets) output output_new errors errors_new ended
serves-from file octets output_mid output output_new errors_mid errors errors_new ended w e h =
    subst (λ (o : Output). ServesFile file (Ok octets) o output_new errors errors_new ended) w
    (subst (λ (o : Output). ServesFile file (Ok octets) output_mid output_new o errors_new ended) e h)

pub checks-from : (file octets : List ℕ) (output_mid output output_new errors_mid errors errors_new : Output) (ended : Status) → output_mid ≡ output → errors_mid ≡ errors
    → ChecksFile file (Ok octets) output_mid output_new errors_mid errors_new ended → ChecksFile file (Ok octets) output output_new errors errors_new ended
checks-from file octets output_mid output output_new errors_mid errors errors_new ended w e h =
    subst (λ (o : Output). ChecksFile file (Ok octets) o output_new errors errors_new ended) w
    (subst (λ (o : Output). ChecksFile file (Ok octets) output_mid output_new o errors_new ended) e h)

-- ---- a file that has settings

pub ran-file : (file : List ℕ) (read : FileRead) (settings : Configuration) (input : Input) (output output_mid errors warned : Output) (new : Streams) (ended : Status)
    → HasSettings file read settings errors warned → output_mid ≡ output
    → RunsScript settings (streams input output_mid warned) new ended ⊎ HasNoMemory (streams input output_mid warned) new ended
    → RunsFile file read (streams input output errors) new ended
ran-file file read settings input output output_mid errors warned new ended has same ran =
    inl (
      settings,
      warned,
      has,
      subst (λ (o : Output). RunsScript settings (streams input o warned) new ended ⊎ HasNoMemory (streams input o warned) new ended) same ran,
    )

pub checked-document : (file octets : List ℕ) (settings : Configuration) (output output_mid output_new errors warned errors_new : Output) (ended : Status)
    → HasSettings file (Ok octets) settings errors warned → output_mid ≡ output → ChecksServer file octets output_mid output_new warned errors_new ended
    → ChecksFile file (Ok octets) output output_new errors errors_new ended
checked-document file octets settings output output_mid output_new errors warned errors_new ended has same checks =
    inl (settings, warned, has, subst (λ (o : Output). ChecksServer file octets o output_new warned errors_new ended) same checks)

-- ---- a file that has none

pub ends-run : (file : List ℕ) (read : FileRead) (input : Input) (output output_new errors errors_new : Output) (ended : Status)
    → EndsAtFile file read output output_new errors errors_new ended → RunsFile file read (streams input output errors) (streams input output_new errors_new) ended
ends-run file read input output output_new errors errors_new ended h = inr (h, refl)

pub ends-check : (file : List ℕ) (read : FileRead) (output output_new errors errors_new : Output) (ended : Status)
    → EndsAtFile file read output output_new errors errors_new ended → ChecksFile file read output output_new errors errors_new ended
ends-check file (Ok octets) output output_new errors errors_new ended h = inr h
ends-check file (Err fault) output output_new errors errors_new ended h = h

pub ends-serve : (file : List ℕ) (read : FileRead) (output output_new errors errors_new : Output) (ended : Status)
    → EndsAtFile file read output output_new errors errors_new ended → ServesFile file read output output_new errors errors_new ended
ends-serve file (Ok octets) output output_new errors errors_new ended h = inr h
ends-serve file (Err fault) output output_new errors errors_new ended h = h

-- ---- words that ask for a run

by-run : (task : Task) (file : List ℕ) (reads : List ℕ → FileRead → Type 0) (old new : Streams) (ended : Status)
    → FileRun file ≡ task → (read : FileRead) × reads file read × RunsFile file read old new ended → DoesTask task reads old new ended
by-run task file reads old new ended e ran = rw (← e) ran

pub asks-run : (file : String Global) → task_of (Run (Some file)) ≡ Some (FileRun (string_bytes file))
asks-run file = refl

pub does-run : (given : List (String Global)) (file text : List ℕ) (reads : List ℕ → FileRead → Type 0) (old new : Streams) (ended : Status)
    → text ≡ file → Some (FileRun file) ≡ Some (asked given)
    → (read : FileRead) × reads text read × RunsFile text read old new ended → Does given reads old new ended
does-run given file text reads old new ended n e ran =
    inl (by-run (asked given) file reads old new ended (cc e) (rw (← n) ran))
