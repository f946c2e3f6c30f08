-- Counts of messages in lists, over links and under way.
use Rattle.pair_moves.proofs.Basics.{◌≡◌, ◌≢◌, ℕ, zero, suc, Bool, true, false, cond, not, ◌+◌, ◌≤◌, ◌<◌, List, [], ◌∷◌, ◌++◌, count_by, filter, refl, ap, sym, ◌∙◌, arith, if◌then◌else◌, subst, ⊎_elim, cases_eq}
use Rattle.pair_moves.proofs.Definitions.{Message, Pair, unreceived, sum_to, under_way, one_if}
use Rattle.std.proofs.lemmas.List.Sums.{sum_by-cons, sum_by-append}

-- ---- in a list

pub count-cons : (test : Message → Bool) (m : Message) (ms : List Message) → count_by test (m ∷ ms) ≡ one_if (test m) + count_by test ms
count-cons test m ms = sum_by-cons (λ x. cond (test x) 1 0) m ms

pub count-append : (test : Message → Bool) (ms ns : List Message) → count_by test (ms ++ ns) ≡ count_by test ms + count_by test ns
count-append test ms ns = sum_by-append (λ x. cond (test x) 1 0) ms ns

pub count-one : (test : Message → Bool) (m : Message) → count_by test (m ∷ []) ≡ one_if (test m)
count-one test m = omega arith

-- the first of a list is taken
pub count-first : (test : Message → Bool) (ms : List Message) (m : Message) (rest : List Message) → ms ≡ m ∷ rest →
    count_by test ms ≡ count_by test rest + one_if (test m)
count-first test ms m rest e = ap (count_by test) e ∙ count-cons test m rest ∙ omega arith

split-one : (test : Message → Bool) (b : Bool) (m : Message) (xs ys : List Message) (n : ℕ) → count_by test xs + count_by test ys ≡ n →
    count_by test (if b then m ∷ xs else xs) + count_by test (if not b then m ∷ ys else ys) ≡ one_if (test m) + n
split-one test true m xs ys n e = omega (arith, count-cons test m xs, e)
split-one test false m xs ys n e = omega (arith, count-cons test m ys, e)

-- those that are of a kind, and the others, are all
pub count-split : (test is : Message → Bool) (ms : List Message) → count_by test (filter is ms) + count_by test (filter (λ m. not (is m)) ms) ≡ count_by test ms
count-split test is [] = refl
count-split test is (m ∷ ms) = split-one test (is m) m (filter is ms) (filter (λ x. not (is x)) ms) (count_by test ms) (count-split test is ms) ∙ sym (count-cons test m ms)

pub count-within : (t u v : Message → Bool) (ms : List Message) → ((m : Message) → one_if (t m) ≤ one_if (u m) + one_if (v m)) →
    count_by t ms ≤ count_by u ms + count_by v ms
count-within t u v [] h = omega arith
count-within t u v (m ∷ ms) h = omega (arith, count-cons t m ms, count-cons u m ms, count-cons v m ms, h m, count-within t u v ms h)

-- ---- over links

pub sum-alike : (f g : ℕ → ℕ) (n : ℕ) → ((k : ℕ) → k < n → g k ≡ f k) → sum_to g n ≡ sum_to f n
sum-alike f g zero h = refl
sum-alike f g (suc n) h = omega (arith, sum-alike f g n (λ k l. h k (omega arith)), h n (omega arith))

pub sum-but : (f g : ℕ → ℕ) (n link : ℕ) → link < n → ((k : ℕ) → k ≢ link → g k ≡ f k) → sum_to g n + f link ≡ sum_to f n + g link
sum-but f g zero link l h = absurd (omega arith)
sum-but f g (suc n) link l h =
    ⊎_elim
    (λ (e : n ≡ link). subst (λ (j : ℕ). sum_to g (suc n) + f j ≡ sum_to f (suc n) + g j) e (omega (arith, sum-alike f g n (λ k b. h k (λ d. absurd (omega (arith, b, d, e)))))))
    (λ (d : n ≢ link). omega (arith, sum-but f g n link (omega (arith, l, d)) h, h n d))
    (cases_eq n link)

pub sum-within : (f g h : ℕ → ℕ) (n : ℕ) → ((k : ℕ) → f k ≤ g k + h k) → sum_to f n ≤ sum_to g n + sum_to h n
sum-within f g h zero e = omega arith
sum-within f g h (suc n) e = omega (arith, sum-within f g h n e, e n)

pub sum-holds : (f : ℕ → ℕ) (n link : ℕ) → link < n → f link ≤ sum_to f n
sum-holds f zero link l = absurd (omega arith)
sum-holds f (suc n) link l =
    ⊎_elim
    (λ (e : n ≡ link). subst (λ (j : ℕ). f j ≤ sum_to f (suc n)) e (omega arith))
    (λ (d : n ≢ link). omega (arith, sum-holds f n link (omega (arith, l, d))))
    (cases_eq n link)

-- ---- under way

pub way-within : (t u v : Message → Bool) (p : Pair) → ((m : Message) → one_if (t m) ≤ one_if (u m) + one_if (v m)) →
    under_way t p ≤ under_way u p + under_way v p
way-within t u v p h =
    omega (
      arith,
      count-within t u v p.near.held h,
      count-within t u v p.near.loose h,
      count-within t u v p.far.arrived h,
      sum-within (λ k. count_by t (unreceived (p.line k))) (λ k. count_by u (unreceived (p.line k))) (λ k. count_by v (unreceived (p.line k))) p.links
          (λ k. count-within t u v (unreceived (p.line k)) h),
    )
