-- What becomes of the user messages for a point, over all nodes: the node law of each, and what each accepts, summed.
use Rattle.node_moves.proofs.Basics.{◌≡◌, ◌≢◌, ◌≤◌, ◌<◌, ◌+◌, ◌&&◌, ◌||◌, ◌^◌, ℕ, zero, suc, Bool, true, false, not, List, [], ◌∷◌, length, Some, count_by, nat_eq, nat_lt, refl, ap, sym, subst, ◌∙◌, arith, nat_tests, if◌then◌else◌, ⊎_elim, cases_eq, eq-eqb, eqb-true, ne_eqb, true≢false}
use Rattle.std.specs.Prelude.{is_some}
use Rattle.node_moves.proofs.Machine.{Side, Near, Far, opposite, Line, Network, Shape, Place, user, seen, turned, one_if, line_at, point_at}
use Rattle.node_moves.proofs.Definitions.{Message, Configuration, dpc_of}
use Rattle.node_moves.proofs.Reading.{IsShape, says_of}
use Rattle.node_moves.proofs.Shown.{at-own}
use Rattle.network_moves.proofs.Sound.{Sound}
use Rattle.node_moves.proofs.World.{Shown, IsUnused, place_at}
use Rattle.node_moves.proofs.BothEnds.{IsOther, is-other}
use Rattle.node_moves.proofs.FateCounts.{count-fate}
use Rattle.node_moves.proofs.Booking.{all-in-order, takes-each}
use Rattle.node_moves.proofs.Running.{all_points, are-all, all-led, point_by, reached}
use Rattle.node_moves.proofs.Ending.{came, ends, placed, fates-same, same-or, sum-ends, the-other, twice}
use Rattle.node_moves.specs.EndToEnd.{ComeFromEndToEnd, IsAccounted, each_message_is_accounted_for, messages_come_from_end_to_end, for_user_parts, to_point, to_user_parts, total}
use Rattle.node_moves.specs.Fates.{TakesEachIn, came_to, goes_on, has_part, is_delivered, is_handled, is_local, is_refused, sccp_takes, is_sccp, is_taken_on, made_at, met_at, submitted_at}
use Rattle.node_moves.specs.Laws.{EndsOnce, any_fate, came_from, fates_that, gone_at, is_user, users_that, waits_at}
use Rattle.node_moves.specs.Outside.{ArePlaced}
use Rattle.node_moves.specs.Networks.{Fate, NetworkState, LinkEnd, IsNode, is_here, is_node, other_end, points, after_steps, first_network}
use Rattle.network_moves.proofs.Concluded.{came-across}
use Rattle.network_moves.proofs.Counts.{sum-alike, sum-none, sum-one}
use Rattle.network_moves.specs.Laws.{IsJoined, sum_at}
use Rattle.network_moves.specs.Laws as law
use Rattle.network_moves.specs.Networks.{sum_to}
use Rattle.network_moves.specs.Quiet.{closed_line}

-- ---- sums

-- four parts of each
sum-four : (f a b c d : ℕ → ℕ) (n : ℕ) → ((k : ℕ) → f k ≡ a k + b k + c k + d k) → sum_to f n ≡ sum_to a n + sum_to b n + sum_to c n + sum_to d n
sum-four f a b c d zero e = refl
sum-four f a b c d (suc n) e = omega (arith, sum-four f a b c d n e, e n)

-- over those numbers that pass a test
abbrev among : (ℕ → Bool) → (ℕ → ℕ) → ℕ → ℕ
among is f n = sum_to (λ x. if is x then f x else 0) n

module _ (is : ℕ → Bool) where
  module _ (a b c d e f g h i : ℕ → ℕ) (each : (x : ℕ) → is x ≡ true → a x + b x + c x ≡ d x + e x + f x + g x + h x + i x) where
    here : (x : ℕ) (q : Bool) → is x ≡ q
        → (if q then a x else 0) + (if q then b x else 0) + (if q then c x else 0)
        ≡ (if q then d x else 0) + (if q then e x else 0) + (if q then f x else 0) + (if q then g x else 0) + (if q then h x else 0) + (if q then i x else 0)
    here x true k = each x k
    here x false k = refl

    sum-nine : (n : ℕ) → among is a n + among is b n + among is c n ≡ among is d n + among is e n + among is f n + among is g n + among is h n + among is i n
    sum-nine zero = refl
    sum-nine (suc n) = omega (arith, sum-nine n, here n (is n) refl)

  sum-less : (f g : ℕ → ℕ) → ((x : ℕ) → is x ≡ true → f x ≤ g x) → (n : ℕ) → among is f n ≤ among is g n
  sum-less f g each zero = omega arith
  sum-less f g each (suc n) = omega (arith, sum-less f g each n, one (is n) refl)
    where
      one : (q : Bool) → is n ≡ q → (if q then f n else 0) ≤ (if q then g n else 0)
      one true k = each n k
      one false k = omega arith

  -- nothing anywhere, or at one number alone
  pub sum-nowhere : (f : ℕ → ℕ) → ((x : ℕ) → is x ≡ true → f x ≡ 0) → (n : ℕ) → among is f n ≡ 0
  sum-nowhere f each n = sum-none (λ x. if is x then f x else 0) n (λ x. one x (is x) refl)
    where
      one : (x : ℕ) (q : Bool) → is x ≡ q → (if q then f x else 0) ≡ 0
      one x true k = each x k
      one x false k = refl

  sum-at-one : (f : ℕ → ℕ) (at n : ℕ) → at < n → is at ≡ true → ((x : ℕ) → is x ≡ true → x ≢ at → f x ≡ 0) → among is f n ≡ f at
  sum-at-one f at n inside its each =
      sum-alike (λ x. if nat_eq at x then f at else 0) (λ x. if is x then f x else 0) n (λ x l. one x (is x) refl) ∙ sum-one at n (f at) inside
    where
      one : (x : ℕ) (q : Bool) → is x ≡ q → (if q then f x else 0) ≡ (if nat_eq at x then f at else 0)
      one x q k =
          ⊎_elim
          (λ (same : x ≡ at).
          subst (λ (y : ℕ). (if q then f y else 0) ≡ (if nat_eq at y then f at else 0)) (sym same)
          (ap (λ (b : Bool). if b then f at else 0) (sym k ∙ ap is same ∙ its) ∙ ap (λ (b : Bool). if b then f at else 0) (sym (eq-eqb at at refl))))
          (λ (d : x ≢ at). apart x q k d ∙ ap (λ (b : Bool). if b then f at else 0) (sym (ne_eqb at x (λ same. d (sym same)))))
          (cases_eq x at)
        where
          apart : (x : ℕ) (q : Bool) → is x ≡ q → x ≢ at → (if q then f x else 0) ≡ 0
          apart x true k d = each x k d
          apart x false k d = refl

-- no fate of a list is of a kind
none-of : (test : Fate → Bool) → ((f : Fate) → test f ≡ false) → (fs : List Fate) → count_by test fs ≡ 0
none-of test e [] = refl
none-of test e (f ∷ fs) = omega (arith, count-fate test f fs, ap one_if (e f), none-of test e fs)

with-sums : (handed come made left waits gone refused delivered relayed there taken : ℕ) → handed + come + made ≡ left + waits + gone + refused + delivered + relayed → left ≡ come → delivered ≡ there
    → relayed ≡ taken → handed + made ≡ there + taken + refused + waits + gone
with-sums handed come made left waits gone refused delivered relayed there taken e f d l = omega (arith, e, f, d, l)

without-sums : (handed made there refused waits gone : ℕ) → handed + made ≡ there + 0 + refused + waits + gone → made ≡ 0 → handed ≡ there + refused + waits + gone
without-sums handed made there refused waits gone e f = omega (arith, e, f)

-- ---- what came from all nodes came to all

module _ (settings : (point : ℕ) → Configuration) (t : ArePlaced settings) (all_joined : (x link : ℕ) → IsNode settings x → link < length (settings x).links → is_some (other_end settings x link) ≡ true) (shape : Shape) (o : IsShape shape) where
  -- a line of the machine at a point without a node is no link
  pub no-node : (x k : ℕ) (side : Side) → is_node settings x ≡ false → shape.point k side ≡ x → IsUnused settings t k
  no-node x k side none e y l fy inside same =
      let its : Place = place_at settings t y l in
      ⊎_elim
      (λ (near : its.side ≡ side).
      let is : y ≡ x = sym (t.own y fy) ∙ sym (at-own shape o (settings y) (t.well y fy) l) ∙ ap (λ (j : ℕ). shape.point j its.side) same ∙ ap (shape.point k) near ∙ e in
      true≢false (sym fy ∙ ap (is_node settings) is ∙ none))
      (λ (far : its.side ≡ opposite side).
      let other : (there : LinkEnd) × (other_end settings y l ≡ Some there) = the-other (other_end settings y l) (all_joined y l fy inside) in
      let h : IsOther settings t shape o y l other.0 = is-other settings t shape o y l other.0 fy inside other.1 in
      let is : other.0.point ≡ x =
      sym (t.own other.0.point h.within) ∙ sym (at-own shape o (settings other.0.point) (t.well other.0.point h.within) other.0.link) ∙ ap (point_at shape) h.place
      ∙ ap (λ (j : ℕ). shape.point j (opposite its.side)) same ∙ ap (λ (s : Side). shape.point k (opposite s)) far ∙ ap (shape.point k) (twice side) ∙ e in
      true≢false (sym h.within ∙ ap (is_node settings) is ∙ none))
      (same-or its.side side)

  module _ (w : NetworkState) (p : Network) (at : Sound shape says_of p) (s : Shown settings t w p) where
    none-there : (f : Line → ℕ) → f closed_line ≡ 0 → (x : ℕ) → is_node settings x ≡ false → sum_at shape x f p ≡ 0
    none-there f closed x none =
        sum-none (λ k. (if nat_eq (shape.point k Near) x then f (p.line k) else 0) + (if nat_eq (shape.point k Far) x then f (turned (p.line k)) else 0)) shape.links
        (λ k. omega (arith, one k Near (nat_eq (shape.point k Near) x) refl, one k Far (nat_eq (shape.point k Far) x) refl))
      where
        closed-seen : (side : Side) → f (seen side closed_line) ≡ 0
        closed-seen Near = closed
        closed-seen Far = closed

        one : (k : ℕ) (side : Side) (b : Bool) → nat_eq (shape.point k side) x ≡ b → (if b then f (seen side (p.line k)) else 0) ≡ 0
        one k side true e = ap (λ (z : Line). f (seen side z)) (s.idle k (no-node x k side none (eqb-true (shape.point k side) x e))) ∙ closed-seen side
        one k side false e = refl

    module _ (test : Message → Bool) where
      abbrev users : Message → Bool
      users = user says_of test

      from-is : (x : ℕ) (b : Bool) → is_node settings x ≡ b → (if b then came_from settings w test x else 0) ≡ law.came_from shape users p x
      from-is x true fx =
          sym (came settings t shape o w p s x fx (λ link inside. all_joined x link fx inside) test) ∙ sym (sum-ends settings t shape o x fx p s.idle (λ z. count_by users z.near.came) refl)
      from-is x false none = sym (none-there (λ z. count_by users z.near.came) refl x none)

      to-is : (x : ℕ) (b : Bool) → is_node settings x ≡ b → (if b then came_to settings w any_fate test x else 0) ≡ law.came_to shape users p x
      to-is x true fx =
          sum-alike (λ link. count_by users (line_at p (place_at settings t x link)).far.came) (λ link. fates_that any_fate test ((w.node x).came link)) (length (settings x).links)
          (λ link inside. fates-same test ((w.node x).came link) ∙ sym ((s.flown x link fx inside).came users))
          ∙ sym (sum-ends settings t shape o x fx p s.idle (λ z. count_by users z.far.came) refl)
      to-is x false none = sym (none-there (λ z. count_by users z.far.came) refl x none)

      pub across : IsJoined shape → shape.nodes ≡ points → total settings w (came_from settings w test) ≡ total settings w (came_to settings w any_fate test)
      across joined e =
          sum-alike (law.came_from shape users p) (λ x. if is_node settings x then came_from settings w test x else 0) points (λ x l. from-is x (is_node settings x) refl)
          ∙ subst (λ (n : ℕ). sum_to (law.came_from shape users p) n ≡ sum_to (law.came_to shape users p) n) e (came-across shape joined users p)
          ∙ sym (sum-alike (law.came_to shape users p) (λ x. if is_node settings x then came_to settings w any_fate test x else 0) points (λ x l. to-is x (is_node settings x) refl))

-- ---- at each node

module _ (settings : (point : ℕ) → Configuration) (w : NetworkState) (x : ℕ) (ends_once : EndsOnce settings w x) (takes : TakesEachIn settings w x) (test : Message → Bool) where
  abbrev c : Configuration
  c = settings x

  come-split : came_to settings w any_fate test x
      ≡ came_to settings w (goes_on c) test x + came_to settings w is_refused test x + came_to settings w (is_delivered c) test x + came_to settings w (sccp_takes c) test x
  come-split =
      sum-four (λ link. fates_that any_fate test ((w.node x).came link)) (λ link. fates_that (goes_on c) test ((w.node x).came link)) (λ link. fates_that is_refused test ((w.node x).came link))
      (λ link. fates_that (is_delivered c) test ((w.node x).came link)) (λ link. fates_that (sccp_takes c) test ((w.node x).came link)) (length c.links) (λ link. takes.came link test)

  balance : submitted_at settings w any_fate test x + came_to settings w any_fate test x + made_at settings w test x
      ≡ came_from settings w test x + waits_at settings w test x + gone_at settings w test x + met_at settings w is_refused test x + met_at settings w (is_delivered c) test x
      + met_at settings w (sccp_takes c) test x
  balance = omega (arith, come-split, takes.submitted test, takes.accepted test, ends_once.once test)

-- ---- over all nodes

shut : (a b : Bool) → (a ≡ true → b ≡ false) → (a && b) ≡ false
shut true b e = e refl
shut false b e = refl

and-first : (a b : Bool) → (a && b) ≡ true → a ≡ true
and-first true b e = refl
and-first false b e = absurd cc

and-last : (u a : Bool) → a ≡ false → (u && a) ≡ false
and-last true a e = e
and-last false a e = refl

module _ (settings : (point : ℕ) → Configuration) (t : ArePlaced settings) (w : NetworkState) (ends_once : (x : ℕ) → IsNode settings x → EndsOnce settings w x)
    (takes : (x : ℕ) → TakesEachIn settings w x) (across_all : (test : Message → Bool) → total settings w (came_from settings w test) ≡ total settings w (came_to settings w any_fate test)) where
  -- of a kind there is none at a node
  none-met : (kind : Fate → Bool) (test : Message → Bool) (x : ℕ) → ((f : Fate) → (kind f && test f.message) ≡ false) → met_at settings w kind test x ≡ 0
  none-met kind test x e =
      let none : (fs : List Fate) → fates_that kind test fs ≡ 0 =
      none-of (λ f. is_user f.message && (kind f && test f.message)) (λ f. and-last (is_user f.message) (kind f && test f.message) (e f)) in
      omega (arith, none (w.node x).submitted, sum-none (λ link. fates_that kind test ((w.node x).came link)) (length (settings x).links) (λ link. none ((w.node x).came link)))

  -- over all nodes
  module _ (test : Message → Bool) where
    abbrev handed : ℕ
    handed = total settings w (submitted_at settings w any_fate test)

    abbrev come : ℕ
    come = total settings w (came_to settings w any_fate test)

    abbrev made : ℕ
    made = total settings w (made_at settings w test)

    abbrev left : ℕ
    left = total settings w (came_from settings w test)

    abbrev waits : ℕ
    waits = total settings w (waits_at settings w test)

    abbrev gone : ℕ
    gone = total settings w (gone_at settings w test)

    abbrev refused : ℕ
    refused = total settings w (met_at settings w is_refused test)

    abbrev delivered : ℕ
    delivered = total settings w (λ x. met_at settings w (is_delivered (settings x)) test x)

    abbrev relayed : ℕ
    relayed = total settings w (λ x. met_at settings w (sccp_takes (settings x)) test x)

    all : handed + come + made ≡ left + waits + gone + refused + delivered + relayed
    all =
        sum-nine (is_node settings) (submitted_at settings w any_fate test) (came_to settings w any_fate test) (made_at settings w test) (came_from settings w test) (waits_at settings w test) (gone_at settings w test)
        (met_at settings w is_refused test) (λ x. met_at settings w (is_delivered (settings x)) test x) (λ x. met_at settings w (sccp_takes (settings x)) test x)
        (λ x fx. balance settings w x (ends_once x fx) (takes x) test) points

    -- where of those delivered, and of those taken by SCCP, so many are left
    with-both : (there taken : ℕ) → delivered ≡ there → relayed ≡ taken → handed + made ≡ there + taken + refused + waits + gone
    with-both there taken d l = with-sums handed come made left waits gone refused delivered relayed there taken all (across_all test) d l

    with-none : (there : ℕ) → delivered ≡ there → relayed ≡ 0 → made ≡ 0 → handed ≡ there + refused + waits + gone
    with-none there d l m = without-sums handed made there refused waits gone (with-both there 0 d l) m

  -- SCCP neither makes nor takes those for other user parts
  none-made : (test : Message → Bool) → total settings w (made_at settings w (for_user_parts test)) ≡ 0
  none-made test = sum-nowhere (is_node settings) (made_at settings w (for_user_parts test)) (λ x fy. (takes x).made test) points

  relayed-sccp : (h s k u : Bool) → ((h && (s && k)) && (not s && u)) ≡ false
  relayed-sccp true true k u = and-last k false refl
  relayed-sccp true false k u = refl
  relayed-sccp false s k u = refl

  none-relayed : (test : Message → Bool) → total settings w (λ x. met_at settings w (sccp_takes (settings x)) (for_user_parts test) x) ≡ 0
  none-relayed test =
      sum-nowhere (is_node settings) (λ x. met_at settings w (sccp_takes (settings x)) (for_user_parts test) x)
      (λ x fy. none-met (sccp_takes (settings x)) (for_user_parts test) x
      (λ f. relayed-sccp (is_here (settings x) f.message) (is_sccp f.message) (is_taken_on f.outcome || is_handled f.outcome) (test f.message))) points

  -- of the whole network
  pub accounted : IsAccounted settings w
  accounted = record {
    once = λ test. with-none (for_user_parts test) (delivered (for_user_parts test)) refl (none-relayed test) (none-made test);
    with_sccp = λ test. with-both test (delivered test) (relayed test) refl refl;
  }

  module _ (point : ℕ) (fx : IsNode settings point) (inside : point < points) where
    -- what is here is for no other point
    elsewhere : (x : ℕ) → IsNode settings x → x ≢ point → (m : Message) → is_here (settings x) m ≡ true → nat_eq (dpc_of m) point ≡ false
    elsewhere x fy d m e = ne_eqb (dpc_of m) point (λ same. d (sym (t.own x fy) ∙ sym (eqb-true (dpc_of m) (settings x).own e) ∙ same))

    -- so of a kind that is of messages for this point there are none elsewhere
    there-alone : (kind : Configuration → Fate → Bool) → ((c : Configuration) (f : Fate) → kind c f ≡ true → is_here c f.message ≡ true) → (test : Message → Bool)
        → ((m : Message) → nat_eq (dpc_of m) point ≡ false → test m ≡ false)
        → total settings w (λ x. met_at settings w (kind (settings x)) test x) ≡ met_at settings w (kind (settings point)) test point
    there-alone kind here test away =
        sum-at-one (is_node settings) (λ x. met_at settings w (kind (settings x)) test x) point points inside fx
        (λ x fy d. none-met (kind (settings x)) test x (λ f. shut (kind (settings x) f) (test f.message) (λ e. away f.message (elsewhere x fy d f.message (here (settings x) f e)))))

    delivered-there : (test : Message → Bool) → ((m : Message) → nat_eq (dpc_of m) point ≡ false → test m ≡ false)
        → total settings w (λ x. met_at settings w (is_delivered (settings x)) test x) ≡ met_at settings w (is_delivered (settings point)) test point
    delivered-there test = there-alone is_delivered (λ c f e. and-first (is_here c f.message) (is_local f.outcome && has_part c f.message) e) test

    module _ (test : Message → Bool) where
      to-point : (m : Message) → nat_eq (dpc_of m) point ≡ false → to_point point test m ≡ false
      to-point m e = ap (λ (b : Bool). b && test m) e

      with-sccp : total settings w (submitted_at settings w any_fate (to_point point test)) + total settings w (made_at settings w (to_point point test))
          ≡ met_at settings w (is_delivered (settings point)) (to_point point test) point + met_at settings w (sccp_takes (settings point)) (to_point point test) point
          + total settings w (met_at settings w is_refused (to_point point test))
          + total settings w (waits_at settings w (to_point point test))
          + total settings w (gone_at settings w (to_point point test))
      with-sccp =
          with-both (to_point point test) (met_at settings w (is_delivered (settings point)) (to_point point test) point) (met_at settings w (sccp_takes (settings point)) (to_point point test) point)
          (delivered-there (to_point point test) to-point)
          (there-alone sccp_takes (λ c f e. and-first (is_here c f.message) (is_sccp f.message && (is_taken_on f.outcome || is_handled f.outcome)) e) (to_point point test) to-point)

      once : total settings w (submitted_at settings w any_fate (to_user_parts point test))
          ≡ met_at settings w (is_delivered (settings point)) (to_user_parts point test) point + total settings w (met_at settings w is_refused (to_user_parts point test))
          + total settings w (waits_at settings w (to_user_parts point test))
          + total settings w (gone_at settings w (to_user_parts point test))
      once =
          with-none (to_user_parts point test) (met_at settings w (is_delivered (settings point)) (to_user_parts point test) point)
          (delivered-there (to_user_parts point test) (λ m e. and-last (not (is_sccp m)) (to_point point test m) (to-point m e)))
          (none-relayed (to_point point test)) (none-made (to_point point test))

    pub end-to-end : ComeFromEndToEnd settings w point
    end-to-end = record {
      once = λ test. once test;
      with_sccp = λ test. with-sccp test;
      named = λ test.
          sum-less (is_node settings) (gone_at settings w test) (λ other. users_that test (w.node other).named) (λ x fy. (ends_once x fy).named test) points;
    }

-- ---- after every list of steps

pub are-joined : IsJoined all_points
unfolding all_points
are-joined = record { inside = λ link side l. within link side l }
  where
    within : (link : ℕ) (side : Side) → link < 2 ^ 32 → point_by side link < 2 ^ 14
    within link Near l = omega (arith, l)
    within link Far l = omega (arith, l)

pub all-nodes : all_points.nodes ≡ points
unfolding all_points
all-nodes = refl

pub come-end-to-end : messages_come_from_end_to_end
come-end-to-end settings steps point its fx none =
    let t : ArePlaced settings = placed settings its in
    let w : NetworkState = after_steps settings steps (first_network settings) in
    let r : (p : Network) × Sound all_points says_of p × Shown settings t w p = reached settings t all_points are-all (λ x fx. all-led (settings x)) steps none in
    let inside : point < points = (let l : nat_lt point points ≡ true = and-first (nat_lt point points) _ fx in grind (arith, nat_tests, l)) in
    end-to-end settings t w (λ x fy. ends settings t all_points are-all w r.0 r.2 x fy (λ link inside. its.joined x link fy inside) r.1) (λ x. takes-each settings w x (all-in-order settings steps x))
    (λ test. across settings t its.joined all_points are-all w r.0 r.1 r.2 test are-joined all-nodes) point fx inside

pub all-accounted : each_message_is_accounted_for
all-accounted settings steps its none =
    let t : ArePlaced settings = placed settings its in
    let w : NetworkState = after_steps settings steps (first_network settings) in
    let r : (p : Network) × Sound all_points says_of p × Shown settings t w p = reached settings t all_points are-all (λ x fx. all-led (settings x)) steps none in
    accounted settings t w (λ x fy. ends settings t all_points are-all w r.0 r.2 x fy (λ link inside. its.joined x link fy inside) r.1) (λ x. takes-each settings w x (all-in-order settings steps x))
    (λ test. across settings t its.joined all_points are-all w r.0 r.1 r.2 test are-joined all-nodes)
