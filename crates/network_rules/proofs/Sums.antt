-- Sums over the points of a network.
use Rattle.exchange_rules.proofs.Basics.{◌≡◌, ◌||◌, ℕ, ◌+◌, Bool, true, false, List, [], ◌∷◌, nat_eq, refl, ap, sym, ◌∙◌, arith, cond, sum_by, sum_by-cons, count_by, if◌then◌else◌, nat_tests}
use Rattle.network_rules.specs.Totals.{is_listed}

pub same-here : (n : ℕ) → nat_eq n n ≡ true
same-here n = grind (arith, nat_tests)

first-true : (a b : Bool) → a ≡ true → (a || b) ≡ true
first-true true b e = refl
first-true false b e = absurd cc

later-true : (a b : Bool) → b ≡ true → (a || b) ≡ true
later-true true b e = refl
later-true false b e = e

two-alike : (a b f g s t : ℕ) → a ≡ f + s → b ≡ g + t → f ≡ g → s ≡ t → a ≡ b
two-alike a b f g s t e h i j = omega (arith, e, h, i, j)

-- what is the same at each point that is listed
pub sum-agree : (f g : ℕ → ℕ) (points : List ℕ) → ((point : ℕ) → is_listed points point ≡ true → f point ≡ g point) → sum_by f points ≡ sum_by g points
sum-agree f g [] h = refl
sum-agree f g (p ∷ points) h =
    two-alike (sum_by f (p ∷ points)) (sum_by g (p ∷ points)) (f p) (g p) (sum_by f points) (sum_by g points) (sum_by-cons f p points) (sum_by-cons g p points)
    (h p (first-true (nat_eq p p) (is_listed points p) (same-here p)))
    (sum-agree f g points (λ k e. h k (later-true (nat_eq k p) (is_listed points k) e)))

count-first : (f : ℕ → Bool) (p : ℕ) (points : List ℕ) → count_by f (p ∷ points) ≡ cond (f p) 1 0 + count_by f points
count-first f p points = sum_by-cons (λ k. cond (f k) 1 0) p points

sum-none : (f : ℕ → ℕ) (point more : ℕ) (points : List ℕ) → is_listed points point ≡ false → sum_by (λ k. f k + (if nat_eq point k then more else 0)) points ≡ sum_by f points
sum-none f point more [] e = refl
sum-none f point more (p ∷ points) e = by (nat_eq point p) (is_listed points point) refl refl e (sum-none f point more points)
  where
    by : (b d : Bool) → nat_eq point p ≡ b → is_listed points point ≡ d → (b || d) ≡ false
        → (is_listed points point ≡ false → sum_by (λ k. f k + (if nat_eq point k then more else 0)) points ≡ sum_by f points)
        → sum_by (λ k. f k + (if nat_eq point k then more else 0)) (p ∷ points) ≡ sum_by f (p ∷ points)
    by true d g h none more_so = absurd cc
    by false true g h none more_so = absurd cc
    by false false g h none more_so =
        let first : f p + (if nat_eq point p then more else 0) ≡ f p + 0 = ap (λ (t : Bool). f p + (if t then more else 0)) g in
        let rest : sum_by (λ k. f k + (if nat_eq point k then more else 0)) points ≡ sum_by f points = more_so h in
        let one : sum_by (λ k. f k + (if nat_eq point k then more else 0)) (p ∷ points) ≡ f p + (if nat_eq point p then more else 0) + sum_by (λ k. f k + (if nat_eq point k then more else 0)) points =
        sum_by-cons (λ k. f k + (if nat_eq point k then more else 0)) p points in
        let two : sum_by f (p ∷ points) ≡ f p + sum_by f points = sum_by-cons f p points in
        omega (arith, first, rest, one, two)

-- at a point that is listed once
count-none : (point : ℕ) (points : List ℕ) → count_by (nat_eq point) points ≡ 0 → is_listed points point ≡ false
count-none point [] e = refl
count-none point (p ∷ points) e = by (nat_eq point p) refl (count-none point points)
  where
    none : (n : ℕ) → 1 + n ≡ 0 → ⊥
    none n e = omega (arith, e)

    rest : (n : ℕ) → 0 + n ≡ 0 → n ≡ 0
    rest n e = omega (arith, e)

    by : (b : Bool) → nat_eq point p ≡ b → (count_by (nat_eq point) points ≡ 0 → is_listed points point ≡ false) → (nat_eq point p || is_listed points point) ≡ false
    by true g more_so = absurd (none (count_by (nat_eq point) points) (sym (ap (λ (t : Bool). cond t 1 0 + count_by (nat_eq point) points) g) ∙ sym (count-first (nat_eq point) p points) ∙ e))
    by false g more_so =
        ap (λ (t : Bool). t || is_listed points point) g
        ∙ more_so (rest (count_by (nat_eq point) points) (sym (ap (λ (t : Bool). cond t 1 0 + count_by (nat_eq point) points) g) ∙ sym (count-first (nat_eq point) p points) ∙ e))

pub sum-once : (f : ℕ → ℕ) (point more : ℕ) (points : List ℕ) → count_by (nat_eq point) points ≡ 1 → sum_by (λ k. f k + (if nat_eq point k then more else 0)) points ≡ sum_by f points + more
sum-once f point more [] e = absurd (let no : 0 ≡ 1 = e in omega (arith, no))
sum-once f point more (p ∷ points) e = by (nat_eq point p) refl (sum-once f point more points)
  where
    rest-none : (n : ℕ) → 1 + n ≡ 1 → n ≡ 0
    rest-none n e = omega (arith, e)

    rest-one : (n : ℕ) → 0 + n ≡ 1 → n ≡ 1
    rest-one n e = omega (arith, e)

    by : (b : Bool) → nat_eq point p ≡ b
        → (count_by (nat_eq point) points ≡ 1 → sum_by (λ k. f k + (if nat_eq point k then more else 0)) points ≡ sum_by f points + more) → sum_by (λ k. f k + (if nat_eq point k then more else 0)) (p ∷ points) ≡ sum_by f (p ∷ points) + more
    by true g more_so =
        let first : f p + (if nat_eq point p then more else 0) ≡ f p + more = ap (λ (t : Bool). f p + (if t then more else 0)) g in
        let none : is_listed points point ≡ false =
        count-none point points (rest-none (count_by (nat_eq point) points) (sym (ap (λ (t : Bool). cond t 1 0 + count_by (nat_eq point) points) g) ∙ sym (count-first (nat_eq point) p points) ∙ e)) in
        let rest : sum_by (λ k. f k + (if nat_eq point k then more else 0)) points ≡ sum_by f points = sum-none f point more points none in
        let one : sum_by (λ k. f k + (if nat_eq point k then more else 0)) (p ∷ points) ≡ f p + (if nat_eq point p then more else 0) + sum_by (λ k. f k + (if nat_eq point k then more else 0)) points =
        sum_by-cons (λ k. f k + (if nat_eq point k then more else 0)) p points in
        let two : sum_by f (p ∷ points) ≡ f p + sum_by f points = sum_by-cons f p points in
        omega (arith, first, rest, one, two)
    by false g more_so =
        let first : f p + (if nat_eq point p then more else 0) ≡ f p + 0 = ap (λ (t : Bool). f p + (if t then more else 0)) g in
        let rest : sum_by (λ k. f k + (if nat_eq point k then more else 0)) points ≡ sum_by f points + more =
        more_so (rest-one (count_by (nat_eq point) points) (sym (ap (λ (t : Bool). cond t 1 0 + count_by (nat_eq point) points) g) ∙ sym (count-first (nat_eq point) p points) ∙ e)) in
        let one : sum_by (λ k. f k + (if nat_eq point k then more else 0)) (p ∷ points) ≡ f p + (if nat_eq point p then more else 0) + sum_by (λ k. f k + (if nat_eq point k then more else 0)) points =
        sum_by-cons (λ k. f k + (if nat_eq point k then more else 0)) p points in
        let two : sum_by f (p ∷ points) ≡ f p + sum_by f points = sum_by-cons f p points in
        omega (arith, first, rest, one, two)
