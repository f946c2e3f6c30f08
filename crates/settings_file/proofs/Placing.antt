-- A word that stands in a text.
use Rattle.settings_file.proofs.Basics.{◌≡◌, ℕ, List, [], ◌++◌, length, drop, refl, ap, sym, ◌∙◌}
use Rattle.std.specs.Prelude.{true, false, take, bytes_eq, ◌==◌, Option, Some, None, IfSome}
use Rattle.std.proofs.Common.{arith}
use Rattle.std.proofs.lemmas.Bool.Decides.{nat_tests}
use Rattle.std.proofs.lemmas.List.{take-append-drop}
use Rattle.std.proofs.lemmas.Slice.Eq.{bytes_eq-Decides}
use Rattle.settings_file.specs.TextPlaces.{StandsAt, are_before_name, are_behind_name, IsPartOf, IsPlaceOfPart, first_place, place_behind}
use Rattle.settings_file.specs.declared.text_places.TextPlace.{TextPlace}

pub word-stands : (text before rest word : List ℕ) (at : ℕ) (place : TextPlace) → before ≡ take at text → rest ≡ drop at text
    → bytes_eq word (take (length word) rest) ≡ true → place ≡ place_behind first_place before → StandsAt text place word
word-stands text before rest word at place b r h p =
    let same : word ≡ take (length word) rest = (bytes_eq-Decides word (take (length word) rest)).0 h in
    let joined : word ++ drop (length word) rest ≡ rest = ap (λ (w : List ℕ). w ++ drop (length word) rest) same ∙ take-append-drop (length word) rest in
    record {
      before = before;
      behind = drop (length word) rest;
      text_is = sym (take-append-drop at text) ∙ rw (b, joined, r) refl;
      place_is = p;
    }

-- ---- a part of a path

not_empty : (word : List ℕ) → false ≡ (length word == 0) → word ≡ [] → ⊥
not_empty word some none = grind (arith, nat_tests, ap (λ (w : List ℕ). length w) none)

pub part-of : (path before behind word rest : List ℕ) (from len : ℕ) → before ≡ take from path → behind ≡ drop from path → word ≡ take len behind → rest ≡ drop len behind
    → false ≡ (length word == 0) → are_before_name before ≡ true → are_behind_name rest ≡ true → IsPartOf word path
part-of path before behind word rest from len b d w r some begins ends =
    let joined : word ++ rest ≡ behind = rw (w, r) (take-append-drop len behind) in
    let whole : before ++ behind ≡ path = rw (b, d) (take-append-drop from path) in
    record {
      before = before;
      behind = rest;
      some = not_empty word some;
      path_is = sym (ap (λ (x : List ℕ). before ++ x) joined ∙ whole);
      begins = begins;
      ends = ends;
    }

pub part-stands : (text path word : List ℕ) (found : Option TextPlace) → IsPartOf word path → IfSome found (λ place. StandsAt text place word) → IfSome found (IsPlaceOfPart text path)
part-stands text path word (Some place) part stands = record { word = word; part = part; stands = stands }
part-stands text path word None part stands = tt
