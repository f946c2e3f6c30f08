-- Counts of messages in lists, over nodes and ends of links, and under way.
use Rattle.network_moves.proofs.Basics.{◌≡◌, ◌≢◌, ℕ, zero, suc, Bool, true, false, ◌+◌, ◌≤◌, ◌<◌, List, nat_eq, if◌then◌else◌, eq-eqb, ne_eqb, [], ◌∷◌, ◌++◌, count_by, cond, refl, ap, sym, arith, subst, ⊎_elim, cases_eq}
use Rattle.network_moves.proofs.Definitions.{Message, Side, Near, Far, opposite, Line, Node, Network, Shape, turned, seen, Place, line_at, point_at, node_at, waiting, given_up, one_if, sum_to, sum_of_ends, NodeBecomes, LinesBecome, Becomes, on_its_way, under_way}
use Rattle.network_moves.proofs.Lines.{false_is_true}
use Rattle.std.proofs.lemmas.List.Sums.{sum_by-cons, sum_by-append}

-- ---- in a list

pub count-cons : (test : Message → Bool) (m : Message) (ms : List Message) → count_by test (m ∷ ms) ≡ one_if (test m) + count_by test ms
count-cons test m ms = sum_by-cons (λ x. cond (test x) 1 0) m ms

pub count-append : (test : Message → Bool) (ms ns : List Message) → count_by test (ms ++ ns) ≡ count_by test ms + count_by test ns
count-append test ms ns = sum_by-append (λ x. cond (test x) 1 0) ms ns

pub count-one : (test : Message → Bool) (m : Message) → count_by test (m ∷ []) ≡ one_if (test m)
count-one test m = omega arith

pub count-within : (t u v : Message → Bool) (ms : List Message) → ((m : Message) → one_if (t m) ≤ one_if (u m) + one_if (v m)) →
    count_by t ms ≤ count_by u ms + count_by v ms
count-within t u v [] h = omega arith
count-within t u v (m ∷ ms) h = omega (arith, count-cons t m ms, count-cons u m ms, count-cons v m ms, h m, count-within t u v ms h)

-- ---- over numbers

pub sum-alike : (f g : ℕ → ℕ) (n : ℕ) → ((k : ℕ) → k < n → g k ≡ f k) → sum_to g n ≡ sum_to f n
sum-alike f g zero h = refl
sum-alike f g (suc n) h = omega (arith, sum-alike f g n (λ k l. h k (omega arith)), h n (omega arith))

pub sum-but : (f g : ℕ → ℕ) (n link : ℕ) → link < n → ((k : ℕ) → k ≢ link → g k ≡ f k) → sum_to g n + f link ≡ sum_to f n + g link
sum-but f g zero link l h = absurd (omega arith)
sum-but f g (suc n) link l h =
    ⊎_elim
    (λ (e : n ≡ link). subst (λ (j : ℕ). sum_to g (suc n) + f j ≡ sum_to f (suc n) + g j) e (omega (arith, sum-alike f g n (λ k b. h k (λ d. absurd (omega (arith, b, d, e)))))))
    (λ (d : n ≢ link). omega (arith, sum-but f g n link (omega (arith, l, d)) h, h n d))
    (cases_eq n link)

pub sum-within : (f g h : ℕ → ℕ) (n : ℕ) → ((k : ℕ) → f k ≤ g k + h k) → sum_to f n ≤ sum_to g n + sum_to h n
sum-within f g h zero e = omega arith
sum-within f g h (suc n) e = omega (arith, sum-within f g h n e, e n)

pub sum-none : (f : ℕ → ℕ) (n : ℕ) → ((k : ℕ) → f k ≡ 0) → sum_to f n ≡ 0
sum-none f zero h = refl
sum-none f (suc n) h = omega (arith, sum-none f n h, h n)

pub sum-added : (f g h : ℕ → ℕ) (n : ℕ) → ((k : ℕ) → f k ≡ g k + h k) → sum_to f n ≡ sum_to g n + sum_to h n
sum-added f g h zero e = refl
sum-added f g h (suc n) e = omega (arith, sum-added f g h n e, e n)

pub sum-holds : (f : ℕ → ℕ) (n link : ℕ) → link < n → f link ≤ sum_to f n
sum-holds f zero link l = absurd (omega arith)
sum-holds f (suc n) link l =
    ⊎_elim
    (λ (e : n ≡ link). subst (λ (j : ℕ). f j ≤ sum_to f (suc n)) e (omega arith))
    (λ (d : n ≢ link). omega (arith, sum-holds f n link (omega (arith, l, d))))
    (cases_eq n link)

pub if-true : (b : Bool) (n : ℕ) → b ≡ true → (if b then n else 0) ≡ n
if-true true n e = refl
if-true false n e = false_is_true e

pub if-false : (b : Bool) (n : ℕ) → b ≡ false → (if b then n else 0) ≡ 0
if-false true n e = false_is_true (sym e)
if-false false n e = refl

-- what is at one of them alone
pub sum-one : (at n count : ℕ) → at < n → sum_to (λ x. if nat_eq at x then count else 0) n ≡ count
sum-one at n count inside =
    omega (
      arith,
      sum-but (λ x. 0) (λ x. if nat_eq at x then count else 0) n at inside (λ x d. if-false (nat_eq at x) count (ne_eqb at x (λ e. d (sym e)))),
      sum-none (λ x. 0) n (λ x. refl),
      if-true (nat_eq at at) count (eq-eqb at at refl),
    )

-- in either order
pub sum-swap : (f : ℕ → ℕ → ℕ) (m n : ℕ) → sum_to (λ x. sum_to (f x) m) n ≡ sum_to (λ k. sum_to (λ x. f x k) n) m
sum-swap f zero n = sum-none (λ x. 0) n (λ x. refl)
sum-swap f (suc m) n = omega (arith, sum-added (λ x. sum_to (f x) (suc m)) (λ x. sum_to (f x) m) (λ x. f x m) n (λ x. refl), sum-swap f m n)

-- ---- over ends of links

pub seen-twice : (side : Side) (z : Line) → seen side (seen side z) ≡ z
seen-twice Near z = refl
seen-twice Far z = refl

-- both ends of one link, begun with either
ends-of : (f : ℕ → Side → Line → ℕ) (link : ℕ) (side : Side) (z : Line) →
    f link Near (seen side z) + f link Far (turned (seen side z)) ≡ f link side z + f link (opposite side) (turned z)
ends-of f link Near z = refl
ends-of f link Far z = omega arith

module _ (shape : Shape) (f : ℕ → Side → Line → ℕ) (p q : Network) where
  -- where one line changes
  pub ends-but : (place : Place) (z : Line) → LinesBecome shape p q place z →
      sum_of_ends shape f q + (f place.link place.side (line_at p place) + f place.link (opposite place.side) (turned (line_at p place)))
      ≡ sum_of_ends shape f p + (f place.link place.side z + f place.link (opposite place.side) (turned z))
  ends-but place z set =
      let at : ℕ → Line → ℕ = λ link y. f link Near y + f link Far (turned y) in
      let new : at place.link (q.line place.link) ≡ at place.link (seen place.side z) = ap (at place.link) set.here in
      let old : at place.link (p.line place.link) ≡ at place.link (seen place.side (line_at p place)) = ap (at place.link) (sym (seen-twice place.side (p.line place.link))) in
      let s : sum_to (λ k. at k (q.line k)) shape.links + at place.link (p.line place.link) ≡ sum_to (λ k. at k (p.line k)) shape.links + at place.link (q.line place.link) =
      sum-but (λ k. at k (p.line k)) (λ k. at k (q.line k)) shape.links place.link set.inside (λ k d. ap (at k) (set.others k d)) in
      omega (arith, s, new, old, ends-of f place.link place.side z, ends-of f place.link place.side (line_at p place))

  -- where none does
  pub ends-alike : ((link : ℕ) → q.line link ≡ p.line link) → sum_of_ends shape f q ≡ sum_of_ends shape f p
  ends-alike same =
      sum-alike (λ k. f k Near (p.line k) + f k Far (turned (p.line k))) (λ k. f k Near (q.line k) + f k Far (turned (q.line k))) shape.links
      (λ k l. ap (λ (y : Line). f k Near y + f k Far (turned y)) (same k))

pub ends-within : (shape : Shape) (f g h : ℕ → Side → Line → ℕ) (p : Network) → ((link : ℕ) (side : Side) (z : Line) → f link side z ≤ g link side z + h link side z) →
    sum_of_ends shape f p ≤ sum_of_ends shape g p + sum_of_ends shape h p
ends-within shape f g h p e =
    sum-within (λ k. f k Near (p.line k) + f k Far (turned (p.line k))) (λ k. g k Near (p.line k) + g k Far (turned (p.line k))) (λ k. h k Near (p.line k) + h k Far (turned (p.line k))) shape.links
    (λ k. omega (arith, e k Near (p.line k), e k Far (turned (p.line k))))

pub ends-added : (shape : Shape) (f g h : ℕ → Side → Line → ℕ) (p : Network) → ((link : ℕ) (side : Side) (z : Line) → f link side z ≡ g link side z + h link side z) →
    sum_of_ends shape f p ≡ sum_of_ends shape g p + sum_of_ends shape h p
ends-added shape f g h p e =
    sum-added (λ k. f k Near (p.line k) + f k Far (turned (p.line k))) (λ k. g k Near (p.line k) + g k Far (turned (p.line k))) (λ k. h k Near (p.line k) + h k Far (turned (p.line k))) shape.links
    (λ k. omega (arith, e k Near (p.line k), e k Far (turned (p.line k))))

-- ---- under way

abbrev pub in_bags : Shape → (Message → Bool) → Network → ℕ
in_bags shape test p = sum_to (λ point. count_by test (p.node point).bag) shape.nodes

pub bags-but : (shape : Shape) (test : Message → Bool) (p q : Network) (point : ℕ) (n : Node) → point < shape.nodes → q.node point ≡ n →
    ((other : ℕ) → other ≢ point → q.node other ≡ p.node other) →
    in_bags shape test q + count_by test (p.node point).bag ≡ in_bags shape test p + count_by test n.bag
bags-but shape test p q point n inside here others =
    let new : count_by test (q.node point).bag ≡ count_by test n.bag = ap (λ (x : Node). count_by test x.bag) here in
    let s : in_bags shape test q + count_by test (p.node point).bag ≡ in_bags shape test p + count_by test (q.node point).bag =
    sum-but (λ x. count_by test (p.node x).bag) (λ x. count_by test (q.node x).bag) shape.nodes point inside (λ x d. ap (λ (y : Node). count_by test y.bag) (others x d)) in
    omega (arith, s, new)

pub way-node : (shape : Shape) (test : Message → Bool) (p q : Network) (point : ℕ) (n : Node) → NodeBecomes shape p q point n →
    under_way shape test q + count_by test (p.node point).bag ≡ under_way shape test p + count_by test n.bag
way-node shape test p q point n after =
    omega (
      arith,
      bags-but shape test p q point n after.inside after.here after.others,
      ends-alike shape (λ link side z. on_its_way test z) p q after.lines,
    )

pub way-line : (shape : Shape) (test : Message → Bool) (p q : Network) (place : Place) (z : Line) (n : Node) → Becomes shape p q place z n →
    under_way shape test q + (count_by test (node_at shape p place).bag + on_its_way test (line_at p place) + on_its_way test (turned (line_at p place)))
    ≡ under_way shape test p + (count_by test n.bag + on_its_way test z + on_its_way test (turned z))
way-line shape test p q place z n after =
    omega (
      arith,
      bags-but shape test p q (point_at shape place) n after.inside after.here after.others,
      ends-but shape (λ link side y. on_its_way test y) p q place z after.lines,
    )

pub way-within : (shape : Shape) (t u v : Message → Bool) (p : Network) → ((m : Message) → one_if (t m) ≤ one_if (u m) + one_if (v m)) →
    under_way shape t p ≤ under_way shape u p + under_way shape v p
way-within shape t u v p h =
    omega (
      arith,
      sum-within (λ x. count_by t (p.node x).bag) (λ x. count_by u (p.node x).bag) (λ x. count_by v (p.node x).bag) shape.nodes (λ x. count-within t u v (p.node x).bag h),
      ends-within shape (λ link side z. on_its_way t z) (λ link side z. on_its_way u z) (λ link side z. on_its_way v z) p
          (λ link side z. omega (arith, count-within t u v (waiting z) h, count-within t u v (given_up z) h)),
    )

-- what is in a bag is under way
pub way-holds : (shape : Shape) (test : Message → Bool) (p : Network) (point : ℕ) → point < shape.nodes → count_by test (p.node point).bag ≤ under_way shape test p
way-holds shape test p point inside = omega (arith, sum-holds (λ x. count_by test (p.node x).bag) shape.nodes point inside)
