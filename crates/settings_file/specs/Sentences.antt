-- How a sentence about a key of a settings file begins.
use Rattle.std.specs.Prelude.{◌≡◌, ℕ, List, [], ◌∷◌, ◌++◌, Option, None, Some, IsSome, codes}
use Rattle.std.specs.Fmt.{decimal}
use Rattle.std.specs.Str.{IsUtf8}
use Rattle.toml.specs.Parse.{parse_document}
use Rattle.settings.specs.declared.key.Key.{Key}
use Rattle.settings.specs.declared.key.Key.TheVariants.{Version}
use Rattle.settings.specs.declared.fault.DraftFault.TheVariants.{NoMemory, At}
use Rattle.settings_file.specs.declared.fault.SettingsFault.{SettingsFault}
use Rattle.settings_file.specs.declared.fault.SettingsFault.TheVariants as fault
use Rattle.settings_file.specs.Places.{KeyPlace, key_place}

-- a key after a colon, or nothing
abbrev pub behind_colon : List ℕ → List ℕ
behind_colon [] = []
behind_colon (octet ∷ rest) = codes ": " ++ (octet ∷ rest)

-- the same, of a key that is given with its dot
abbrev pub colon_for_dot : List ℕ → List ℕ
colon_for_dot [] = []
colon_for_dot (dot ∷ rest) = codes ": " ++ rest

-- the name that an entry has in the file, in quotes, if it has one
abbrev pub quoted : Option (List ℕ) → List ℕ
quoted None = []
quoted (Some name) = codes " \"" ++ (name ++ codes "\"")

-- a key alone; or an array, the index of an entry, how the entry is called, and what is after
abbrev pub place_of : List ℕ → Option ℕ → Option (List ℕ) → List ℕ → List ℕ
place_of front None entry_name behind = front
place_of front (Some i) entry_name behind =
    front ++ (codes "[" ++ (decimal i ++ (codes "]" ++ (quoted entry_name ++ behind))))

-- how a place is written: `own`, `timers.l1`, `link[2]`, `link[2] "e2": slc`
abbrev pub place_text : KeyPlace → Option (List ℕ) → List ℕ
place_text place entry_name = place_of place.front place.entry entry_name (colon_for_dot place.back)

-- a sentence about a place: the file, the place, and what is wrong there
pub record IsAboutPlace (file : List ℕ) (place : KeyPlace) (sentence : List ℕ) : Type 0 where
  pub entry_name : Option (List ℕ)
  pub wrong : List ℕ
  pub text : sentence ≡ file ++ (codes ": " ++ (place_text place entry_name ++ (codes " " ++ wrong)))

-- a sentence about a key of settings
abbrev pub IsAbout : (file : List ℕ) → Key → (sentence : List ℕ) → Type 0
IsAbout file key sentence = IsAboutPlace file (key_place key) sentence

-- the key that a fault of a document is at
abbrev pub key_of : SettingsFault → Option Key
key_of fault.Text = None
key_of (fault.Missing key) = Some key
key_of (fault.Kind key) = Some key
key_of fault.Version = Some Version
key_of (fault.Draft NoMemory) = None
key_of (fault.Draft (At kind key)) = Some key

-- texts, one behind another: one for each of these, in their order
abbrev pub AreEach : {A : Type 0} → (A → List ℕ → Type 0) → List A → (texts : List ℕ) → Type 0
AreEach Is [] texts = texts ≡ []
AreEach Is (a ∷ rest) texts =
    (first : List ℕ) × (more : List ℕ) × Is a first × AreEach Is rest more × (texts ≡ first ++ more)

-- a sentence names the file
pub record Names (file sentence : List ℕ) : Type 0 where
  pub rest : List ℕ
  pub text : sentence ≡ file ++ (codes ": " ++ rest)

-- a sentence about a fault of a file with these octets names the file and, if the file is TOML, the key that the fault
-- is at
pub record Explains (file octets : List ℕ) (why : SettingsFault) (sentence : List ℕ) : Type 0 where
  pub names : Names file sentence
  pub key : (k : Key) → key_of why ≡ Some k → IsUtf8 octets → IsSome (parse_document octets) → IsAbout file k sentence
