-- A sentence that is written with the row of a key is about the place of that row.
use Rattle.settings_file.proofs.Basics.{IfOk-weaker, ◌≡◌, ◌++◌, ◌∙◌, ℕ, List, [], ◌∷◌, Option, codes, refl}
use Rattle.settings_file.specs.Places.{behind_dot}
use Rattle.settings_file.specs.Sentences.{IsAboutPlace, place_of, behind_colon, colon_for_dot}
use Rattle.settings_file.proofs.places.about.Goals as goal

-- a key after a colon, by the key with its dot
colon-for-dot : (name : List ℕ) → behind_colon name ≡ colon_for_dot (behind_dot name)
colon-for-dot [] = refl
colon-for-dot (octet ∷ rest) = refl

is-about : (file wrong sentence front name : List ℕ) (entry : Option ℕ) (entry_name : Option (List ℕ))
    → sentence ≡ file ++ (codes ": " ++ (place_of front entry entry_name (behind_colon name)
    ++ (codes " " ++ (wrong ++ codes "\n"))))
    → IsAboutPlace file (record { front = front; entry = entry; back = behind_dot name }) sentence
is-about file wrong sentence front name entry entry_name s = record {
  entry_name = entry_name;
  wrong = wrong ++ codes "\n";
  text = s ∙ rw (colon-for-dot name) refl;
}

pub returns : goal.returns
returns c = IfOk-weaker c.format.result _ _ (λ sentence written. is-about _ _ _ _ _ _ _ written) c.format.ensures.ok
