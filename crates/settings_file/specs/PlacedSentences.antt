-- Sentences about faults, with the places of their keys in the text of the file.
use Rattle.std.specs.Prelude.{◌≡◌, ◌⊎◌, ℕ, List, ◌++◌, Some, codes}
use Rattle.std.specs.Str.{IsUtf8}
use Rattle.toml.specs.Data.{Members}
use Rattle.toml.specs.Parse.{parse_document}
use Rattle.std.specs.Fmt.{decimal}
use Rattle.settings_file.specs.Places.{KeyPlace, name_at}
use Rattle.settings_file.specs.Sentences.{AreEach, Names}
use Rattle.settings_file.specs.ServeSentences.{Explains, place_of}
use Rattle.settings_file.specs.TextPlaces.{IsPlaceAround, StandsAt}
use Rattle.settings_file.specs.AllFaults.{AreAllFaults}
use Rattle.settings_file.specs.declared.serve.fault.ServeFault.{ServeFault}
use Rattle.settings_file.specs.declared.text_places.TextPlace.{TextPlace}

-- at a place in the text a key stands, or what it is in: names of the path to it, or the brace that opens its entry
abbrev pub IsPlaceOfKey : (text : List ℕ) → KeyPlace → TextPlace → Type 0
IsPlaceOfKey text key place = StandsAt text place (name_at key) ⊎ IsPlaceAround text key.front place

-- the place of the key of a fault
pub record IsPlaceOfFault (text : List ℕ) (fault : ServeFault) (place : TextPlace) : Type 0 where
  pub key : KeyPlace
  pub is_key : place_of fault ≡ Some key
  pub stands : IsPlaceOfKey text key place

-- the name of a file, with a line and a column behind it
abbrev pub placed : (file : List ℕ) → TextPlace → List ℕ
placed file place = file ++ (codes ":" ++ (decimal place.line ++ (codes ":" ++ decimal place.column)))

-- how a sentence about a fault begins: with the file, or with the file and the place of the key
pub record IsBeginning (file text : List ℕ) (fault : ServeFault) (front : List ℕ) : Type 0 where
  pub is : (front ≡ file) ⊎ ((place : TextPlace) × IsPlaceOfFault text fault place × (front ≡ placed file place))

-- a sentence about a fault names the file, with the key's place or without, and is about the key that the fault is at
pub record IsSentence (file text : List ℕ) (fault : ServeFault) (sentence : List ℕ) : Type 0 where
  pub front : List ℕ
  pub begins : IsBeginning file text fault front
  pub explains : Explains front fault sentence

-- one sentence for each fault, in their order
abbrev pub AreSentences : (file text : List ℕ) → List ServeFault → (sentences : List ℕ) → Type 0
AreSentences file text faults sentences = AreEach (IsSentence file text) faults sentences

-- sentences about all faults of a file with these octets, of which this is the first: they name the file; and if the
-- file is TOML there is one for each fault
pub record ExplainsAll (file octets : List ℕ) (first : ServeFault) (sentences : List ℕ) : Type 0 where
  pub document : (t : Members) → IsUtf8 octets → parse_document octets ≡ Some t
      → (faults : List ServeFault) × AreAllFaults t first faults × AreSentences file octets faults sentences
  pub none : ((t : Members) → IsUtf8 octets → parse_document octets ≡ Some t → ⊥) → Names file sentences
