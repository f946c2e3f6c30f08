-- A word that a line shows is UTF-8.
use Rattle.std.proofs.Common.{◌≡◌, ℕ, zero, suc, List, [], ◌∷◌, ◌<◌, true, false, Bool, arith, refl}
use Rattle.std.specs.Prelude.{◌&&◌, slice_index}
use Rattle.std.specs.List.{list_all}
use Rattle.std.specs.Char.{is_ascii_graphic}
use Rattle.std.specs.Str.{IsUtf8}
use Rattle.std.proofs.lemmas.Bool.Decides.{nat_tests}
use Rattle.std.proofs.lemmas.Str.{IsUtf8-from_ascii}
use Rattle.std.proofs.lemmas.Grind.{common_steps}
use Rattle.console.specs.ClientWords.{is_shown}

first_of_two : (a b : Bool) → (a && b) ≡ true → a ≡ true
first_of_two true b h = refl
first_of_two false b h = cc h

second_of_two : (a b : Bool) → (a && b) ≡ true → b ≡ true
second_of_two true b h = h
second_of_two false b h = cc h

graphic-below : (octet : ℕ) → is_ascii_graphic octet ≡ true → octet < 128
graphic-below octet h = grind (arith, nat_tests, common_steps)

graphic-ascii : (word : List ℕ) → list_all is_ascii_graphic word ≡ true → (i : ℕ) → slice_index word i < 128
graphic-ascii [] h i = omega arith
graphic-ascii (octet ∷ word) h zero = graphic-below octet (first_of_two (is_ascii_graphic octet) (list_all is_ascii_graphic word) h)
graphic-ascii (octet ∷ word) h (suc i) = graphic-ascii word (second_of_two (is_ascii_graphic octet) (list_all is_ascii_graphic word) h) i

pub shown-text : (word : List ℕ) → is_shown word ≡ true → IsUtf8 word
shown-text word h = IsUtf8-from_ascii word (graphic-ascii word (second_of_two _ (list_all is_ascii_graphic word) h))
