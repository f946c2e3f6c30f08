-- The leaves beneath a node: what the node's bound says of them.
use Rattle.timers.proofs.Basics.{◌≡◌, ℕ, zero, suc, ◌+◌, ◌-◌, ◌*◌, ◌^◌, ◌<◌, ◌≤◌, inl, inr, min, true, false, cond, List, ◌∷◌, ◌++◌, length, take, drop, refl, sym, ap, subst, ◌∙◌, arith, pow-suc, mul-le-mul_left, pow_pos, take-append-drop, take-take, drop-take, drop-drop, drop_more, sum_by-append, cases_lt, nat_tests, Option, Some, None, option_or, count_by, never, has_come, at, first_below, count_below, IsBounded, AreBounded}

take-add : (m n : ℕ) (xs : List ℕ) → take (m + n) xs ≡ take m xs ++ take n (drop m xs)
take-add m n xs = sym (take-append-drop m (take (m + n) xs)) ∙ (λ i. take-take m (m + n) xs (omega arith) i ++ drop-take m n xs i)

-- ---- tests

pub come-yes : (clock moment : ℕ) → moment ≤ clock → has_come clock moment ≡ true
come-yes clock moment h = grind (arith, nat_tests)

pub come-no : (clock moment : ℕ) → clock < moment → has_come clock moment ≡ false
come-no clock moment h = grind (arith, nat_tests)

came_by : (clock moment : ℕ) → has_come clock moment ≡ true → moment ≤ clock
came_by clock moment h = grind (arith, nat_tests, h)

gone_by : (clock moment : ℕ) → has_come clock moment ≡ false → clock < moment
gone_by clock moment h = grind (arith, nat_tests, h)

both_above : (c n a b : ℕ) → c < n → n ≤ min a b → (c < a) × (c < b)
both_above c n a b h k = (grind (arith, h, k), grind (arith, h, k))

-- ---- rows

double : (k : ℕ) → 2 ^ suc k ≡ 2 ^ k + 2 ^ k
double k = omega (arith, pow-suc 2 k)

-- where the row of the node begins, seen from the two nodes below it
row_left : (k node : ℕ) → node * 2 ^ suc k ≡ (2 * node) * 2 ^ k
row_left k node = let d = double k in ap (λ p. node * p) d ∙ halves node (2 ^ k)
  where
    halves : (n p : ℕ) → n * (p + p) ≡ (2 * n) * p
    halves n p = omega arith

row_right : (k node : ℕ) → (2 * node + 1) * 2 ^ k ≡ node * 2 ^ suc k + 2 ^ k
row_right k node = omega (arith, row_left k node)

row_end : (k node : ℕ) → (node + 1) * 2 ^ suc k ≡ (2 * node + 1 + 1) * 2 ^ k
row_end k node = omega (arith, row_left k node, double k)

-- a row that has levels below it
deeper : (levels : ℕ) → 0 < levels → levels ≡ suc (levels - 1)
deeper levels h = omega (arith, h)

wider : (levels node n : ℕ) → 0 < levels → (node + 1) * 2 ^ levels ≤ n → (node + 1) * 2 ^ suc (levels - 1) ≤ n
wider levels node n h k = subst (λ l. (node + 1) * 2 ^ l ≤ n) (deeper levels h) k

pub row-first : (levels node n : ℕ) → 0 < levels → (node + 1) * 2 ^ levels ≤ n → (2 * node + 1) * 2 ^ (levels - 1) ≤ n
row-first levels node n h k = omega (arith, wider levels node n h k, row_end (levels - 1) node)

pub row-second : (levels node n : ℕ) → 0 < levels → (node + 1) * 2 ^ levels ≤ n → (2 * node + 1 + 1) * 2 ^ (levels - 1) ≤ n
row-second levels node n h k = omega (arith, wider levels node n h k, row_end (levels - 1) node)

pub two-halves : (levels : ℕ) → 0 < levels → 2 ^ levels ≡ 2 ^ (levels - 1) + 2 ^ (levels - 1)
two-halves levels h = ap (λ l. 2 ^ l) (deeper levels h) ∙ double (levels - 1)

pub row-within : (levels node n : ℕ) → (node + 1) * 2 ^ levels ≤ n → node < n
row-within levels node n h =
    let some : 1 ≤ 2 ^ levels = omega (arith, pow_pos levels) in
    let wide : (node + 1) * 1 ≤ (node + 1) * 2 ^ levels = mul-le-mul_left (node + 1) some in
    omega (arith, wide, h)

pub bounded-first : (levels node : ℕ) (nodes : List ℕ) → 0 < levels → AreBounded levels node nodes → AreBounded (levels - 1) (2 * node) nodes
bounded-first levels node nodes h m = (subst (λ l. AreBounded l node nodes) (deeper levels h) m).1

pub bounded-second : (levels node : ℕ) (nodes : List ℕ) → 0 < levels → AreBounded levels node nodes → AreBounded (levels - 1) (2 * node + 1) nodes
bounded-second levels node nodes h m = (subst (λ l. AreBounded l node nodes) (deeper levels h) m).2

pub ruleset below = (row-first, row-second, bounded-first, bounded-second)

-- ---- each node holds a bound

-- a node n levels above the leaves
pub record IsOver (leaves k node : ℕ) : Type 0 where
  pub some : 1 ≤ node
  pub fits : (node + 1) * 2 ^ k ≤ 2 * leaves

over-left : (leaves k node : ℕ) → IsOver leaves (suc k) node → IsOver leaves k (2 * node)
over-left leaves k node o = record { some = omega (arith, o.some); fits = omega (arith, o.fits, row_end k node) }

over-right : (leaves k node : ℕ) → IsOver leaves (suc k) node → IsOver leaves k (2 * node + 1)
over-right leaves k node o = record { some = omega arith; fits = omega (arith, o.fits, row_end k node) }

inner : (leaves k node : ℕ) → IsOver leaves (suc k) node → node < leaves
inner leaves k node o =
    let some : 1 ≤ 2 ^ k = omega (arith, pow_pos k) in
    let wide : (2 * node + 1 + 1) * 1 ≤ (2 * node + 1 + 1) * 2 ^ k = mul-le-mul_left (2 * node + 1 + 1) some in
    omega (arith, wide, o.fits, row_end k node)

below-bounded : (leaves k node : ℕ) (nodes : List ℕ) → IsBounded leaves nodes → IsOver leaves k node → AreBounded k node nodes
below-bounded leaves zero node nodes m o = tt
below-bounded leaves (suc k) node nodes m o = (
  m.holds node o.some (inner leaves k node o),
  below-bounded leaves k (2 * node) nodes m (over-left leaves k node o),
  below-bounded leaves k (2 * node + 1) nodes m (over-right leaves k node o),
)

-- the whole tree
pub all-bounded : (levels : ℕ) (nodes : List ℕ) → IsBounded (2 ^ levels) nodes → AreBounded levels 1 nodes
all-bounded levels nodes m = below-bounded (2 ^ levels) levels 1 nodes m (record { some = omega arith; fits = omega arith })

-- ---- nothing has come below a node that hasn't

module _ (clock : ℕ) (nodes : List ℕ) where
  pub none-below : (k node : ℕ) → AreBounded k node nodes → clock < at nodes node → count_below clock nodes k node ≡ 0
  none-below zero node m h = ap (λ b. cond b 1 0) (come-no clock (at nodes node) h)
  none-below (suc k) node m h =
      let both = both_above clock (at nodes node) (at nodes (2 * node)) (at nodes (2 * node + 1)) h m.0 in
      omega (arith, none-below k (2 * node) m.1 both.0, none-below k (2 * node + 1) m.2 both.1)

  pub none-first : (k node : ℕ) → AreBounded k node nodes → clock < at nodes node → first_below clock nodes k node ≡ None
  none-first zero node m h = ap (λ b. cond b (Some node) None) (come-no clock (at nodes node) h)
  none-first (suc k) node m h =
      let both = both_above clock (at nodes node) (at nodes (2 * node)) (at nodes (2 * node + 1)) h m.0 in
      λ i. option_or (none-first k (2 * node) m.1 both.0 i) (none-first k (2 * node + 1) m.2 both.1 i)

  -- ---- what a search says

  -- the first leaf of the row of a node that has come
  pub record IsFirst (k node leaf : ℕ) : Type 0 where
    pub low : node * 2 ^ k ≤ leaf
    pub high : leaf < (node + 1) * 2 ^ k
    pub come : at nodes leaf ≤ clock
    pub before : (other : ℕ) → node * 2 ^ k ≤ other → other < leaf → clock < at nodes other

  -- no leaf of the row has
  pub record AreLate (k node : ℕ) : Type 0 where
    pub all : (leaf : ℕ) → node * 2 ^ k ≤ leaf → leaf < (node + 1) * 2 ^ k → clock < at nodes leaf

  abbrev pub IsAnswer : (k node : ℕ) → Option ℕ → Type 0
  IsAnswer k node (Some leaf) = IsFirst k node leaf
  IsAnswer k node None = AreLate k node

  pub first-is : (k node : ℕ) → IsAnswer k node (first_below clock nodes k node)
  first-is zero node =
      elim (has_come clock (at nodes node)) as (λ b. has_come clock (at nodes node) ≡ b → IsAnswer 0 node (cond b (Some node) None)) [
        | true ↦ λ e. record { low = omega arith; high = omega arith; come = came_by clock (at nodes node) e; before = λ other low high. absurd (omega (arith, low, high)) }
        | false ↦ λ e. record {
          all = λ leaf low high.
              let same : node ≡ leaf = omega (arith, low, high) in
              subst (λ i. clock < at nodes i) same (gone_by clock (at nodes node) e);
        }
      ] refl
  first-is (suc k) node = either (first_below clock nodes k (2 * node)) (first_below clock nodes k (2 * node + 1)) (first-is k (2 * node)) (first-is k (2 * node + 1))
    where
      either : (left right : Option ℕ) → IsAnswer k (2 * node) left → IsAnswer k (2 * node + 1) right → IsAnswer (suc k) node (option_or left right)
      either (Some leaf) right f g = record {
        low = omega (arith, f.low, row_left k node);
        high = omega (arith, f.high, row_left k node, row_right k node, double k, row_end k node);
        come = f.come;
        before = λ other low high. f.before other (omega (arith, low, row_left k node)) high;
      }
      either None (Some leaf) f g = record {
        low = omega (arith, g.low, row_right k node);
        high = omega (arith, g.high, row_end k node);
        come = g.come;
        before = λ other low high. elim (cases_lt other ((2 * node + 1) * 2 ^ k)) [
          | inl skipped ↦ f.all other (omega (arith, low, row_left k node)) skipped
          | inr there ↦ g.before other there high
        ];
      }
      either None None f g = record {
        all = λ leaf low high. elim (cases_lt leaf ((2 * node + 1) * 2 ^ k)) [
          | inl left ↦ f.all leaf (omega (arith, low, row_left k node)) left
          | inr right ↦ g.all leaf right (omega (arith, high, row_end k node))
        ];
      }

  -- ---- as many leaves have come as a test of the row lets through

  pub count-row : (k node : ℕ) → (node + 1) * 2 ^ k ≤ length nodes → count_below clock nodes k node ≡ count_by (has_come clock) (take (2 ^ k) (drop (node * 2 ^ k) nodes))
  count-row zero node h =
      let within : node < length nodes = omega (arith, h) in
      let start : node * 2 ^ 0 ≡ node = omega arith in
      sym (ap (λ i. count_by (has_come clock) (take 1 (drop i nodes))) start ∙ ap (λ xs. count_by (has_come clock) (take 1 xs)) (drop_more nodes node never within) ∙ single (at nodes node) (drop (node + 1) nodes))
    where
      single : (x : ℕ) (xs : List ℕ) → count_by (has_come clock) (take 1 (x ∷ xs)) ≡ cond (has_come clock x) 1 0
      single x xs = let e : 0 + cond (has_come clock x) 1 0 ≡ cond (has_come clock x) 1 0 = omega arith in e
  count-row (suc k) node h =
      let p = 2 ^ k in
      let from = node * 2 ^ suc k in
      let left = count-row k (2 * node) (omega (arith, h, row_end k node, row_right k node, row_left k node, double k)) in
      let right = count-row k (2 * node + 1) (omega (arith, h, row_end k node)) in
      let begins : (2 * node) * p ≡ from = sym (row_left k node) in
      let goes_on : drop ((2 * node + 1) * p) nodes ≡ drop p (drop from nodes) = ap (λ i. drop i nodes) (row_right k node) ∙ sym (drop-drop p from nodes) in
      (λ i. left i + right i)
      ∙ (λ i. count_by (has_come clock) (take p (drop (begins i) nodes)) + count_by (has_come clock) (take p (goes_on i)))
      ∙ sym (sum_by-append (λ m. cond (has_come clock m) 1 0) (take p (drop from nodes)) (take p (drop p (drop from nodes))))
      ∙ ap (count_by (has_come clock)) (sym (take-add p p (drop from nodes)))
      ∙ ap (λ n. count_by (has_come clock) (take n (drop from nodes))) (sym (double k))
