-- What is read from the text of a settings file.
use Rattle.std.specs.Prelude.{◌≡◌, ◌⊎◌, ℕ, ℤ, nat_le, List, [], ◌∷◌, length, Option, None, Some, Result, Ok, Err}
use Rattle.std.specs.Prelude.{if◌then◌else◌}
use Rattle.std.specs.Option.{ok_or}
use Rattle.toml.specs.Data.{Members}
use Rattle.std.specs.Ordering.{int_eq}
use Rattle.toml.specs.Parse.{parse_document}
use Rattle.settings.specs.Configuration.{Configuration}
use Rattle.settings.specs.Checks.{first_of, fault_unless}
use Rattle.settings.specs.Meaning.{settings_of}
use Rattle.settings.specs.FirstFault.{first_fault}
use Rattle.settings.specs.declared.draft.Draft.{Draft}
use Rattle.settings.specs.declared.fault.DraftFault.{DraftFault}
use Rattle.settings.specs.declared.fault.FaultKind.TheVariants.{Range, TooMany}
use Rattle.settings.specs.declared.key.Key.TheVariants.{Window, Destination}
use Rattle.settings_file.specs.declared.fault.SettingsFault.{SettingsFault}
use Rattle.settings_file.specs.declared.fault.SettingsFault.TheVariants as kind
use Rattle.settings_file.specs.Shapes.{and_then}
use Rattle.settings_file.specs.declared.limits.TheConstants.FirstLimits.{WINDOW, DESTINATIONS}
use Rattle.settings_file.specs.Written.{written}
use Rattle.settings_file.specs.Versions.{FIRST_VERSION, is_known_version}
use Rattle.settings_file.specs.Document.{Document, document}

-- a document, which must be of version 1, 2, 3 or 4
abbrev pub of_known_version : Document → Result Document SettingsFault
of_known_version d = if is_known_version d.version then Ok d else Err kind.Version

-- the version and the settings that a document has, or its first fault: one of its keys is missing or has a value of
-- another type, or its version isn't known
unfoldable pub reading_in : Members → Result Document SettingsFault
reading_in t = and_then (document t) of_known_version

-- the same of a text, which may be no document: it isn't TOML
unfoldable pub reading : List ℕ → Result Document SettingsFault
reading text = and_then (ok_or (parse_document text) kind.Text) reading_in

-- the fault of settings that go beyond what a file of the first version may ask for: its window, then its destinations
abbrev pub first_limits_fault : Configuration → Option DraftFault
first_limits_fault c = first_of (
    fault_unless (nat_le c.window WINDOW) Range Window
    ∷ fault_unless (nat_le (length c.destinations) DESTINATIONS) TooMany Destination
    ∷ [])

-- the same of a file of any version: the others have no limits of their own
abbrev pub limits_fault : (version : ℤ) → Configuration → Option DraftFault
limits_fault version c = if int_eq version FIRST_VERSION then first_limits_fault c else None

-- the first fault of settings in a file of this version: a fault of settings in any file, and last the limits of this
-- version
unfoldable pub settings_fault : (version : ℤ) → Draft → Option DraftFault
settings_fault version d = first_of (first_fault d ∷ limits_fault version (settings_of d) ∷ [])

-- the settings that a text has are without a fault, and mean this configuration, whatever its version is
pub record IsReadAs (text : List ℕ) (c : Configuration) : Type 0 where
  pub version : ℤ
  pub draft : Draft
  pub read : reading text ≡ Ok (record { version = version; settings = written draft })
  pub well : settings_fault version draft ≡ None
  pub meant : c ≡ settings_of draft

-- the settings that a text has can be read, and the fault is what the check finds first
pub record IsCheckedFault (text : List ℕ) (fault : SettingsFault) : Type 0 where
  pub version : ℤ
  pub draft : Draft
  pub found : DraftFault
  pub read : reading text ≡ Ok (record { version = version; settings = written draft })
  pub first : settings_fault version draft ≡ Some found
  pub named : fault ≡ kind.Draft found

-- the first fault of a text: in reading it, else in checking what was read
abbrev pub IsFirstFault : List ℕ → SettingsFault → Type 0
IsFirstFault text fault = (reading text ≡ Err fault) ⊎ IsCheckedFault text fault
