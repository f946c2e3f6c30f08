-- The faults of a settings file: their numbers, and the lines that tell them.
use Rattle.std.specs.Prelude.{◌≡◌, ◌⊎◌, ℕ, List, ◌++◌, codes, Result, Ok, Err}
use Rattle.settings.specs.Keys.{key_path}
use Rattle.settings.specs.Faults as draft
use Rattle.settings.specs.declared.fault.DraftFault.TheVariants.{NoMemory}
use Rattle.settings_file.specs.declared.fault.SettingsFault.{SettingsFault}
use Rattle.settings_file.specs.declared.fault.SettingsFault.TheVariants as fault

abbrev pub fault_number : SettingsFault → ℕ
fault_number fault.Text = 1
fault_number (fault.Missing key) = 2
fault_number (fault.Kind key) = 3
fault_number fault.Version = 4
fault_number (fault.Draft found) = draft.fault_number found

-- the line that tells a fault: `fault 1`, `fault 3 link[2].slc`, `fault NoMemory`
abbrev pub fault_line : SettingsFault → List ℕ
fault_line fault.Text = codes "fault 1"
fault_line (fault.Missing key) = codes "fault 2 " ++ key_path key
fault_line (fault.Kind key) = codes "fault 3 " ++ key_path key
fault_line fault.Version = codes "fault 4 version"
fault_line (fault.Draft found) = draft.fault_line found

-- memory ran out
abbrev pub no_memory : SettingsFault
no_memory = fault.Draft NoMemory

-- what a call answers: what is said, which its value stands for
abbrev pub Answers : {A B F : Type 0} → (B → A) → Result A F → Result B F → Type 0
Answers value said (Ok b) = said ≡ Ok (value b)
Answers value said (Err fault) = said ≡ Err fault

-- the same of a call that takes memory, which may run out
abbrev pub AnswersOrNoMemory : {A B : Type 0} → (B → A) → Result A SettingsFault → Result B SettingsFault → Type 0
AnswersOrNoMemory value said (Ok b) = said ≡ Ok (value b)
AnswersOrNoMemory value said (Err fault) = (fault ≡ no_memory) ⊎ (said ≡ Err fault)
