-- Sentences about faults of a server's settings.
use Rattle.std.specs.Prelude.{◌≡◌, ℕ, List, Option, None, Some}
use Rattle.std.specs.Option.{option_map}
use Rattle.settings_file.specs.Places as settings
use Rattle.settings_file.specs.Places.{KeyPlace}
use Rattle.settings_file.specs.Sentences.{Names, IsAboutPlace, key_of}
use Rattle.settings_file.specs.ServeKeys.{key_place}
use Rattle.settings_file.specs.declared.serve.fault.ServeFault.{ServeFault}
use Rattle.settings_file.specs.declared.serve.fault.ServeFault.TheVariants as kind

abbrev pub place_of : ServeFault → Option KeyPlace
place_of (kind.Settings found) = option_map settings.key_place (key_of found)
place_of (kind.Missing key) = Some (key_place key)
place_of (kind.Kind key) = Some (key_place key)
place_of (kind.Range key) = Some (key_place key)
place_of (kind.Duplicate key) = Some (key_place key)
place_of kind.NoMemory = None

-- a sentence about a fault of a file names the file, and is about the place that the fault is at
pub record Explains (file : List ℕ) (why : ServeFault) (sentence : List ℕ) : Type 0 where
  pub names : Names file sentence
  pub place : (p : KeyPlace) → place_of why ≡ Some p → IsAboutPlace file p sentence
