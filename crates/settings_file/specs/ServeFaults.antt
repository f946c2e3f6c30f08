-- The faults of a server's settings, and the lines that tell them.
use Rattle.std.specs.Prelude.{◌≡◌, ◌⊎◌, ℕ, List, ◌++◌, codes, Result, Ok, Err}
use Rattle.settings_file.specs.Faults as settings
use Rattle.settings_file.specs.declared.fault.SettingsFault.{SettingsFault}
use Rattle.settings_file.specs.declared.fault.SettingsFault.TheVariants as found
use Rattle.settings.specs.declared.fault.DraftFault.TheVariants as draft
use Rattle.settings_file.specs.ServeKeys.{key_path}
use Rattle.settings_file.specs.declared.serve.fault.ServeFault.{ServeFault}
use Rattle.settings_file.specs.declared.serve.fault.ServeFault.TheVariants as kind

-- the line that tells a fault: `fault 2 serve.tick_ms`, `fault 5 link[2].listen`, `fault NoMemory`
abbrev pub fault_line : ServeFault → List ℕ
fault_line (kind.Settings fault) = settings.fault_line fault
fault_line (kind.Missing key) = codes "fault 2 " ++ key_path key
fault_line (kind.Kind key) = codes "fault 3 " ++ key_path key
fault_line (kind.Range key) = codes "fault 4 " ++ key_path key
fault_line (kind.Duplicate key) = codes "fault 5 " ++ key_path key
fault_line kind.NoMemory = codes "fault NoMemory"

-- a fault of the node's settings among those of a server's
abbrev pub fault_of : SettingsFault → ServeFault
fault_of (found.Draft draft.NoMemory) = kind.NoMemory
fault_of fault = kind.Settings fault

-- what a call answers that takes memory, which may run out
abbrev pub AnswersOrNoMemory : {A B : Type 0} → (B → A) → Result A ServeFault → Result B ServeFault → Type 0
AnswersOrNoMemory value said (Ok b) = said ≡ Ok (value b)
AnswersOrNoMemory value said (Err fault) = (fault ≡ kind.NoMemory) ⊎ (said ≡ Err fault)
