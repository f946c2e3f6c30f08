-- What settings files hold.
use Rattle.std.specs.Prelude.{ℕ, ◌≡◌, ◌⊎◌, List, Vec, Result, Ok, Err}
use Rattle.std.specs.Global.{Global}
use Rattle.std.specs.Str.{IsUtf8}
use Rattle.settings.specs.Configuration.{Configuration}
use Rattle.settings_file.specs.Faults.{no_memory}
use Rattle.settings_file.specs.Reading.{IsReadAs, IsFirstFault}
use Rattle.settings_file.specs.declared.fault.SettingsFault.{SettingsFault}
use Rattle.settings_file.specs.declared.fault.SettingsFault.TheVariants.{Text}
use Rattle.settings_file.specs.Parsed.{AreDocument}
use Rattle.settings_file.specs.Addresses.{Spelling}
use Rattle.settings_file.specs.ServeReading.{checked}
use Rattle.settings_file.specs.declared.serve.fault.ServeFault.{ServeFault}
use Rattle.settings_file.specs.declared.serve.fault.ServeFault.TheVariants.{NoMemory}
use Rattle.toml.specs.Data.{Members}
use Rattle.program.specs.declared.folder.FileFault.{FileFault}

-- the outcome of reading a file: its octets, or why there are none
abbrev pub FileRead : Type 0
FileRead = Result (List ℕ) FileFault

abbrev pub octets_read : Result (Vec ℕ Global) FileFault → FileRead
octets_read (Ok octets) = Ok octets.items
octets_read (Err fault) = Err fault

-- these octets are the text of settings that mean this configuration
pub record AreSettings (octets : List ℕ) (c : Configuration) : Type 0 where
  pub text : IsUtf8 octets
  pub read : IsReadAs octets c

-- the first fault of octets that should be settings: they aren't UTF-8, or it is that of their text
abbrev pub IsFileFault : List ℕ → SettingsFault → Type 0
IsFileFault octets why = (¬ (IsUtf8 octets) × (why ≡ Text)) ⊎ (IsUtf8 octets × IsFirstFault octets why)

-- or memory ran out
abbrev pub IsFault : List ℕ → SettingsFault → Type 0
IsFault octets why = (why ≡ no_memory) ⊎ IsFileFault octets why

-- the document of the octets says nothing about a server, or its settings of one have no fault
pub record AreServed (octets : List ℕ) : Type 0 where
  pub document : Members
  pub are : AreDocument octets document
  pub well : (s : Spelling) → checked s document ≡ Ok tt

-- its settings of a server have this first fault, or memory ran out
pub record IsServerFault (octets : List ℕ) (why : ServeFault) : Type 0 where
  pub document : Members
  pub are : AreDocument octets document
  pub first : (s : Spelling) → (why ≡ NoMemory) ⊎ (checked s document ≡ Err why)
