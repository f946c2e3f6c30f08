-- That the faults of a document of version 4 that are found all at once are those of reading it: reading is what the
-- checks find, and the first fault of a file is the first of all.
use Rattle.std.specs.Prelude.{◌≡◌, ◌⊎◌, List, [], ◌∷◌, Option, Some, None, Result, Ok, Err}
use Rattle.toml.specs.Data.{Members}
use Rattle.settings.specs.AllFaults.{all_faults, first_in}
use Rattle.settings.specs.declared.draft.Draft.{Draft}
use Rattle.settings.specs.declared.fault.DraftFault.{DraftFault}
use Rattle.settings_file.specs.declared.fault.SettingsFault.{SettingsFault}
use Rattle.settings_file.specs.declared.fault.SettingsFault.TheVariants as file
use Rattle.settings_file.specs.AllFaults.{reading_faults}
use Rattle.settings_file.specs.Document.{Document}
use Rattle.settings_file.specs.Mended.{mended}
use Rattle.settings_file.specs.Versions.{LAST_VERSION}
use Rattle.settings_file.specs.Written.{written}

-- what is left of a value by checks: the first fault that one of them found, or the value if none did
abbrev pub checked_by : {A : Type 0} → List (Option SettingsFault) → A → Result A SettingsFault
checked_by [] value = Ok value
checked_by (None ∷ rest) value = checked_by rest value
checked_by (Some fault ∷ rest) value = Err fault

-- a document of version 4, if each of its values can be read
abbrev pub document_mended : Members → Document
document_mended t = record { version = LAST_VERSION; settings = mended t }

-- no fault is found in reading the settings of a document, and none in those that were read
pub record HasNoFault (t : Members) : Type 0 where
  pub read : reading_faults t ≡ []
  pub draft : Draft
  pub says : written draft ≡ mended t
  pub well : all_faults draft ≡ []

-- the first fault that is found in reading the settings of a document
abbrev pub IsFirstOfReading : Members → SettingsFault → Type 0
IsFirstOfReading t fault = (rest : List SettingsFault) × (reading_faults t ≡ fault ∷ rest)

-- no fault is found in reading them, and this is the first of those that were read
pub record IsFirstOfChecking (t : Members) (fault : SettingsFault) : Type 0 where
  pub read : reading_faults t ≡ []
  pub draft : Draft
  pub says : written draft ≡ mended t
  pub found : DraftFault
  pub first : first_in (all_faults draft) ≡ Some found
  pub named : fault ≡ file.Draft found

-- the first of all faults of settings
abbrev pub IsFirstOfAll : Members → SettingsFault → Type 0
IsFirstOfAll t fault = IsFirstOfReading t fault ⊎ IsFirstOfChecking t fault
