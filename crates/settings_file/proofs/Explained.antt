-- A sentence about a fault of the node's settings is about the place of that fault.
use Rattle.settings_file.proofs.Basics.{◌≡◌, ℕ, List, Option, None, Some, refl, subst, ap, ◌∙◌, sym, none-some, same_Some, Result, Ok, Err, SettingsFault, ServeFault}
use Rattle.std.specs.Global.{Global}
use Rattle.std.specs.Prelude.{IfOk, String, string_bytes}
use Rattle.std.specs.Option.{option_map}
use Rattle.settings.specs.declared.key.Key.{Key}
use Rattle.settings_file.specs.Sentences as settings
use Rattle.settings_file.specs.Places.{KeyPlace, key_place}
use Rattle.settings_file.specs.Sentences.{IsAboutPlace, IsAbout}
use Rattle.settings_file.specs.declared.serve.fault.ServeFault.TheVariants as kind
use Rattle.settings_file.specs.ServeSentences.{Explains, place_of}

-- what is about a key is about its place
at-place : (file sentence : List ℕ) (key : Option Key) (p : KeyPlace) → option_map key_place key ≡ Some p
    → ((k : Key) → key ≡ Some k → IsAbout file k sentence) → IsAboutPlace file p sentence
at-place file sentence (Some key) p is about =
    let Q : KeyPlace → Type 0 = λ q. IsAboutPlace file q sentence in
    subst Q (same_Some (key_place key) p is) (about key refl)
at-place file sentence None p is about = absurd (none-some p is)

pub explains : (file sentence : List ℕ) (found : SettingsFault) (why : ServeFault) → why ≡ kind.Settings found
    → settings.Names file sentence → ((key : Key) → settings.key_of found ≡ Some key → IsAbout file key sentence) → Explains file why sentence
explains file sentence found why is names told = record {
  names = names;
  place = λ p at. at-place file sentence (settings.key_of found) p (sym (ap place_of is) ∙ at) told;
}

-- the same of a sentence that may lack memory
pub explained : {E : Type 0} (r : Result (String Global) E) (file : List ℕ) (found : SettingsFault) (why : ServeFault) → why ≡ kind.Settings found
    → IfOk r (λ sentence. settings.Names file (string_bytes sentence))
    → IfOk r (λ sentence. (key : Key) → settings.key_of found ≡ Some key → IsAbout file key (string_bytes sentence))
    → IfOk r (λ sentence. Explains file why (string_bytes sentence))
explained (Ok sentence) file found why is names told = explains file (string_bytes sentence) found why is names told
explained (Err e) file found why is names told = tt
