-- The points of settings that are apart: each is there once, exactly if there are settings for it.
use Rattle.std.proofs.Common.{◌≡◌, ℕ, ◌+◌, Bool, true, false, ◌&&◌, ◌||◌, not, List, [], ◌∷◌, Option, Some, is_some, nat_eq, cond, refl, ap, sym, ◌∙◌, arith, map}
use Rattle.std.specs.Prelude.{if◌then◌else◌, count_by}
use Rattle.std.specs.List.{list_any}
use Rattle.std.proofs.lemmas.Bool.Decides.{nat_tests}
use Rattle.std.proofs.lemmas.List.Sums.{sum_by-cons}
use Rattle.settings.specs.Configuration.{Configuration}
use Rattle.network_rules.specs.Totals.{is_listed}
use Rattle.network_world.specs.Joined.{are_apart, settings_for}
use Rattle.network_world.proofs.NodePlaces.{equal}

-- ---- tests

turned : (m n : ℕ) (b : Bool) → nat_eq m n ≡ b → nat_eq n m ≡ b
turned m n true e = grind (arith, nat_tests, e)
turned m n false e = grind (arith, nat_tests, e)

either-none : (a b : Bool) → (a || b) ≡ false → (a ≡ false) × (b ≡ false)
either-none true b e = absurd cc
either-none false b e = (refl, e)

neither-and : (a b : Bool) → (not a && b) ≡ true → (a ≡ false) × (b ≡ true)
neither-and true b e = absurd cc
neither-and false b e = (refl, e)

none-more : (n : ℕ) → n ≡ 0 → 0 + n ≡ 0
none-more n e = omega (arith, e)

one-only : (n : ℕ) → n ≡ 0 → 1 + n ≡ 1
one-only n e = omega (arith, e)

one-later : (n : ℕ) → n ≡ 1 → 0 + n ≡ 1
one-later n e = omega (arith, e)

-- ---- the points

abbrev pub own : Configuration → ℕ
own c = c.own

listed-as : (cs : List Configuration) (point : ℕ) → is_listed (map own cs) point ≡ is_some (settings_for cs point)
listed-as [] point = refl
listed-as (c ∷ cs) point = by (nat_eq c.own point) refl (listed-as cs point)
  where
    by : (b : Bool) → nat_eq c.own point ≡ b → is_listed (map own cs) point ≡ is_some (settings_for cs point)
        → (nat_eq point c.own || is_listed (map own cs) point) ≡ is_some (if b then Some c else settings_for cs point)
    by true e rest = ap (λ (t : Bool). t || is_listed (map own cs) point) (turned c.own point true e)
    by false e rest = ap (λ (t : Bool). t || is_listed (map own cs) point) (turned c.own point false e) ∙ rest

-- there are settings for a point that is there, and none for another
pub for-listed : (cs : List Configuration) (point : ℕ) (o : Option Configuration) → settings_for cs point ≡ o → is_listed (map own cs) point ≡ is_some o
for-listed cs point o e = listed-as cs point ∙ ap is_some e

any-listed : (cs : List Configuration) (point : ℕ) → list_any (λ d. nat_eq d.own point) cs ≡ is_listed (map own cs) point
any-listed [] point = refl
any-listed (c ∷ cs) point =
    ap (λ (t : Bool). t || list_any (λ d. nat_eq d.own point) cs) (sym (turned c.own point (nat_eq c.own point) refl))
    ∙ ap (λ (t : Bool). nat_eq point c.own || t) (any-listed cs point)

count-first : (f : ℕ → Bool) (p : ℕ) (points : List ℕ) → count_by f (p ∷ points) ≡ cond (f p) 1 0 + count_by f points
count-first f p points = sum_by-cons (λ k. cond (f k) 1 0) p points

none-there : (points : List ℕ) (point : ℕ) → is_listed points point ≡ false → count_by (nat_eq point) points ≡ 0
none-there [] point e = refl
none-there (p ∷ points) point e =
    let parts = either-none (nat_eq point p) (is_listed points point) e in
    count-first (nat_eq point) p points ∙ ap (λ (t : Bool). cond t 1 0 + count_by (nat_eq point) points) parts.0
    ∙ none-more (count_by (nat_eq point) points) (none-there points point parts.1)

pub once-there : (cs : List Configuration) → are_apart cs ≡ true → (point : ℕ) → is_listed (map own cs) point ≡ true → count_by (nat_eq point) (map own cs) ≡ 1
once-there [] apart point e = absurd cc
once-there (c ∷ cs) apart point e = by (nat_eq point c.own) refl e (once-there cs parts.1 point)
  where
    parts : (list_any (λ d. nat_eq d.own c.own) cs ≡ false) × (are_apart cs ≡ true)
    parts = neither-and (list_any (λ d. nat_eq d.own c.own) cs) (are_apart cs) apart

    alone : point ≡ c.own → is_listed (map own cs) point ≡ false
    alone same = ap (is_listed (map own cs)) same ∙ sym (any-listed cs c.own) ∙ parts.0

    first : (b : Bool) → nat_eq point c.own ≡ b → count_by (nat_eq point) (map own (c ∷ cs)) ≡ cond b 1 0 + count_by (nat_eq point) (map own cs)
    first b f = count-first (nat_eq point) c.own (map own cs) ∙ ap (λ (t : Bool). cond t 1 0 + count_by (nat_eq point) (map own cs)) f

    by : (b : Bool) → nat_eq point c.own ≡ b → (b || is_listed (map own cs) point) ≡ true
        → (is_listed (map own cs) point ≡ true → count_by (nat_eq point) (map own cs) ≡ 1) → count_by (nat_eq point) (map own (c ∷ cs)) ≡ 1
    by true f g rest =
        first true f ∙ one-only (count_by (nat_eq point) (map own cs)) (none-there (map own cs) point (alone (equal point c.own f)))
    by false f g rest = first false f ∙ one-later (count_by (nat_eq point) (map own cs)) (rest g)
