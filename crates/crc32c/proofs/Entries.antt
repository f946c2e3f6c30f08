-- What the tables hold: entry by entry what the division leaves.
use Rattle.std.proofs.Common.{◌≡◌, ℕ, zero, suc, ◌+◌, ◌^◌, ◌<◌, Bool, true, List, [], ◌∷◌, length, get_or, refl, ap, ◌∙◌, arith}
use Rattle.std.proofs.lemmas.Bool.Decides.{nat_tests}
use Rattle.std.specs.Prelude.{◌==◌, ◌&&◌, slice_index}
use Rattle.crc32c.specs.declared.tables.TheConstants.{TABLES}
use Rattle.crc32c.specs.Division.{divided_by}

-- the table of this place
abbrev pub table : ℕ → List ℕ
table place = get_or TABLES place []

-- the list has what the function gives, from this number on
abbrev holds : (ℕ → ℕ) → ℕ → List ℕ → Bool
holds f from [] = true
holds f from (x ∷ xs) = (x == f from) && holds f (from + 1) xs

at_place : (f : ℕ → ℕ) (from : ℕ) (xs : List ℕ) (i : ℕ) → holds f from xs ≡ true → i < length xs → get_or xs i 0 ≡ f (from + i)
at_place f from [] i h inside = absurd (omega (arith, inside))
at_place f from (x ∷ xs) zero h inside =
    let first : x ≡ f from = grind (arith, nat_tests, h) in
    let place : from ≡ from + zero = omega arith in
    first ∙ ap f place
at_place f from (x ∷ xs) (suc i) h inside =
    let rest : holds f (from + 1) xs ≡ true = grind (arith, nat_tests, h) in
    let place : from + 1 + i ≡ from + suc i = omega arith in
    at_place f (from + 1) xs i rest (omega (arith, inside)) ∙ ap f place

holds_8 : holds (divided_by 8) 0 (table 0) ≡ true
unfolding divided_by
holds_8 = refl

pub table_8 : (n : ℕ) → n < 2 ^ 8 → slice_index (table 0) n ≡ divided_by 8 n
table_8 n fits = let e : 0 + n ≡ n = omega arith in at_place (divided_by 8) 0 (table 0) n holds_8 fits ∙ ap (divided_by 8) e

holds_16 : holds (divided_by 16) 0 (table 1) ≡ true
unfolding divided_by
holds_16 = refl

pub table_16 : (n : ℕ) → n < 2 ^ 8 → slice_index (table 1) n ≡ divided_by 16 n
table_16 n fits = let e : 0 + n ≡ n = omega arith in at_place (divided_by 16) 0 (table 1) n holds_16 fits ∙ ap (divided_by 16) e

holds_24 : holds (divided_by 24) 0 (table 2) ≡ true
unfolding divided_by
holds_24 = refl

pub table_24 : (n : ℕ) → n < 2 ^ 8 → slice_index (table 2) n ≡ divided_by 24 n
table_24 n fits = let e : 0 + n ≡ n = omega arith in at_place (divided_by 24) 0 (table 2) n holds_24 fits ∙ ap (divided_by 24) e

holds_32 : holds (divided_by 32) 0 (table 3) ≡ true
unfolding divided_by
holds_32 = refl

pub table_32 : (n : ℕ) → n < 2 ^ 8 → slice_index (table 3) n ≡ divided_by 32 n
table_32 n fits = let e : 0 + n ≡ n = omega arith in at_place (divided_by 32) 0 (table 3) n holds_32 fits ∙ ap (divided_by 32) e

holds_40 : holds (divided_by 40) 0 (table 4) ≡ true
unfolding divided_by
holds_40 = refl

pub table_40 : (n : ℕ) → n < 2 ^ 8 → slice_index (table 4) n ≡ divided_by 40 n
table_40 n fits = let e : 0 + n ≡ n = omega arith in at_place (divided_by 40) 0 (table 4) n holds_40 fits ∙ ap (divided_by 40) e

holds_48 : holds (divided_by 48) 0 (table 5) ≡ true
unfolding divided_by
holds_48 = refl

pub table_48 : (n : ℕ) → n < 2 ^ 8 → slice_index (table 5) n ≡ divided_by 48 n
table_48 n fits = let e : 0 + n ≡ n = omega arith in at_place (divided_by 48) 0 (table 5) n holds_48 fits ∙ ap (divided_by 48) e

holds_56 : holds (divided_by 56) 0 (table 6) ≡ true
unfolding divided_by
holds_56 = refl

pub table_56 : (n : ℕ) → n < 2 ^ 8 → slice_index (table 6) n ≡ divided_by 56 n
table_56 n fits = let e : 0 + n ≡ n = omega arith in at_place (divided_by 56) 0 (table 6) n holds_56 fits ∙ ap (divided_by 56) e

holds_64 : holds (divided_by 64) 0 (table 7) ≡ true
unfolding divided_by
holds_64 = refl

pub table_64 : (n : ℕ) → n < 2 ^ 8 → slice_index (table 7) n ≡ divided_by 64 n
table_64 n fits = let e : 0 + n ≡ n = omega arith in at_place (divided_by 64) 0 (table 7) n holds_64 fits ∙ ap (divided_by 64) e
