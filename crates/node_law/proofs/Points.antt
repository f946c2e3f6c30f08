-- Sums over all point codes, and over the points of a list.
use Rattle.std.proofs.Common.{◌≡◌, ◌≢◌, ◌<◌, ◌+◌, ℕ, Bool, true, false, List, [], ◌∷◌, nat_eq, refl, ap, sym, subst, ◌∙◌, arith}
use Rattle.std.proofs.lemmas.Bool.{cases_eq, ne_eqb}
use Rattle.std.proofs.lemmas.List.Sums.{sum_by-cons}
use Rattle.std.proofs.Math.Logic.{⊎_elim}
use Rattle.std.specs.Prelude.{count_by, if◌then◌else◌, sum_by}
use Rattle.network_moves.specs.Networks.{sum_to}
use Rattle.network_moves.proofs.Counts.{sum-added, sum-alike, sum-none, sum-one}
use Rattle.network_rules.specs.Totals.{is_listed}
use Rattle.network_rules.proofs.Sums.{sum-agree, sum-once}

two-sums : (s a b f g t u v : ℕ) → s ≡ f + g + t → a ≡ f + u → b ≡ g + v → t ≡ u + v → s ≡ a + b
two-sums s a b f g t u v e h i j = omega (arith, e, h, i, j)

pub sum-plus : (f g : ℕ → ℕ) (ps : List ℕ) → sum_by (λ p. f p + g p) ps ≡ sum_by f ps + sum_by g ps
sum-plus f g [] = refl
sum-plus f g (p ∷ ps) =
    two-sums (sum_by (λ p. f p + g p) (p ∷ ps)) (sum_by f (p ∷ ps)) (sum_by g (p ∷ ps)) (f p) (g p) (sum_by (λ p. f p + g p) ps) (sum_by f ps) (sum_by g ps)
    (sum_by-cons (λ p. f p + g p) p ps) (sum_by-cons f p ps) (sum_by-cons g p ps) (sum-plus f g ps)

pub sum-nothing : (f : ℕ → ℕ) (ps : List ℕ) → ((p : ℕ) → f p ≡ 0) → sum_by f ps ≡ 0
sum-nothing f [] e = refl
sum-nothing f (p ∷ ps) e = none (sum_by f (p ∷ ps)) (f p) (sum_by f ps) (sum_by-cons f p ps) (e p) (sum-nothing f ps e)
  where
    none : (s a b : ℕ) → s ≡ a + b → a ≡ 0 → b ≡ 0 → s ≡ 0
    none s a b e f g = omega (arith, e, f, g)

-- one that is counted at its own number
abbrev placed : (ℕ → ℕ) → (p k : ℕ) → ℕ
placed f p k = if nat_eq p k then f p else 0

placed-alike : (f : ℕ → ℕ) (p k : ℕ) → placed f p k ≡ 0 + placed (λ j. f k) k p
placed-alike f p k =
    ⊎_elim
    (λ (same : p ≡ k). subst (λ (i : ℕ). placed f p i ≡ 0 + placed (λ j. f i) i p) same (plus (placed f p p)))
    (λ (apart : p ≢ k).
    ap (λ (b : Bool). if b then f p else 0) (ne_eqb p k apart) ∙ ap (λ (b : Bool). 0 + (if b then f k else 0)) (sym (ne_eqb k p (λ same. apart (sym same)))))
    (cases_eq p k)
  where
    plus : (n : ℕ) → n ≡ 0 + n
    plus n = omega arith

-- in either order
swapped : (g : ℕ → ℕ → ℕ) (ps : List ℕ) (n : ℕ) → sum_by (λ p. sum_to (g p) n) ps ≡ sum_to (λ k. sum_by (λ p. g p k) ps) n
swapped g [] n = sym (sum-none (λ k. 0) n (λ k. refl))
swapped g (p ∷ ps) n =
    sum_by-cons (λ p. sum_to (g p) n) p ps ∙ ap (λ (m : ℕ). sum_to (g p) n + m) (swapped g ps n)
    ∙ sym (sum-added (λ k. sum_by (λ q. g q k) (p ∷ ps)) (g p) (λ k. sum_by (λ q. g q k) ps) n (λ k. sum_by-cons (λ q. g q k) p ps))

-- points that are listed once, and pass a test as no others do
pub record AreAll (is : ℕ → Bool) (ps : List ℕ) (n : ℕ) : Type 0 where
  pub inside : (p : ℕ) → is_listed ps p ≡ true → p < n
  pub pass : (p : ℕ) → is_listed ps p ≡ true → is p ≡ true
  pub listed : (p : ℕ) → is p ≡ true → is_listed ps p ≡ true
  pub once : (p : ℕ) → is_listed ps p ≡ true → count_by (nat_eq p) ps ≡ 1

pub sum-listed : (f : ℕ → ℕ) (is : ℕ → Bool) (ps : List ℕ) (n : ℕ) → AreAll is ps n → sum_by f ps ≡ sum_to (λ p. if is p then f p else 0) n
sum-listed f is ps n h =
    sum-agree f (λ p. sum_to (placed f p) n) ps (λ p its. sym (sum-one p n (f p) (h.inside p its)))
    ∙ swapped (placed f) ps n
    ∙ sum-alike (λ k. if is k then f k else 0) (λ k. sum_by (λ p. placed f p k) ps) n (λ k less. by k (is k) refl)
  where
    last : (n : ℕ) → n ≡ 0 → (m : ℕ) → n + m ≡ m
    last n e m = omega (arith, e)

    by : (k : ℕ) (b : Bool) → is k ≡ b → sum_by (λ p. placed f p k) ps ≡ (if b then f k else 0)
    by k true its =
        sum-agree (λ p. placed f p k) (λ p. 0 + (if nat_eq k p then f k else 0)) ps (λ p on. placed-alike f p k)
        ∙ sum-once (λ p. 0) k (f k) ps (h.once k (h.listed k its))
        ∙ last (sum_by (λ p. 0) ps) (sum-nothing (λ p. 0) ps (λ p. refl)) (f k)
    by k false none =
        sum-agree (λ p. placed f p k) (λ p. 0) ps
        (λ p on. ap (λ (b : Bool). if b then f p else 0) (ne_eqb p k (λ same. (let clash : true ≡ false = sym (h.pass p on) ∙ ap is same ∙ none in absurd cc))))
        ∙ sum-nothing (λ p. 0) ps (λ p. refl)
