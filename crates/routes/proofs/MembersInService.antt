-- The link that a flow takes is in service and of a set that messages take, and there is one if its group has such a
-- link.
use Rattle.routes.proofs.Basics.{◌≡◌, ℕ, Bool, true, false, cond, List, [], ◌∷◌, refl, ap, ◌∙◌, sym, list_any-IsPermutation, list_any, option_map, Some, find, is_some, ◌||◌, Member, preference, is_in_service, serves, first_serving, and_parts}
use Rattle.routes.proofs.Preference.{preference_permutes}

found : (in_service : List Bool) (sets : List ℕ) (group : List Member) (link : ℕ)
    → option_map (λ (m : Member). m.link) (find (serves in_service sets) group) ≡ Some link → is_in_service in_service link ≡ true
found in_service sets [] link e = absurd cc
found in_service sets (x ∷ xs) link e =
    elim (serves in_service sets x) as (λ b. serves in_service sets x ≡ b
    → option_map (λ (m : Member). m.link) (cond b (Some x) (find (serves in_service sets) xs)) ≡ Some link → is_in_service in_service link ≡ true) [
      | true ↦ λ up is.
          let same : x.link ≡ link = cc in
          ap (λ n. is_in_service in_service n) (sym same) ∙ (and_parts (is_in_service in_service x.link) _ up).0
      | false ↦ λ down is. found in_service sets xs link is
    ] refl e

pub first_serves : (selection : ℕ) (in_service : List Bool) (sets : List ℕ) (group : List Member) (link : ℕ)
    → first_serving selection in_service sets group ≡ Some link → is_in_service in_service link ≡ true
first_serves selection in_service sets group link e = found in_service sets (preference selection group) link e

some_found : {A B : Type 0} (f : A → B) (p : A → Bool) (xs : List A) → is_some (option_map f (find p xs)) ≡ list_any p xs
some_found f p [] = refl
some_found f p (x ∷ xs) =
    elim (p x) as (λ b. is_some (option_map f (cond b (Some x) (find p xs))) ≡ (b || list_any p xs)) [
      | true ↦ refl
      | false ↦ some_found f p xs
    ]

pub some_serves : (selection : ℕ) (in_service : List Bool) (sets : List ℕ) (group : List Member)
    → is_some (first_serving selection in_service sets group) ≡ list_any (serves in_service sets) group
some_serves selection in_service sets group =
    some_found (λ (m : Member). m.link) (serves in_service sets) (preference selection group)
    ∙ sym (list_any-IsPermutation (serves in_service sets) group (preference selection group) (preference_permutes selection group))
