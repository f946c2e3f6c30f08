-- From end to end.
use Rattle.std.proofs.Common.{◌≡◌, ◌<◌, ◌+◌, ◌-◌, ◌&&◌, ℕ, zero, suc, Bool, true, false, not, List, [], ◌∷◌, length, refl, ap, sym, subst, ◌∙◌, arith}
use Rattle.std.specs.Prelude.{count_by, filter, if◌then◌else◌, sum_by}
use Rattle.signalling_types.specs.Message.{Message}
use Rattle.settings.specs.Configuration.{Configuration}
use Rattle.settings.specs.Well.{IsWell}
use Rattle.network_moves.specs.Networks.{one_if, sum_to}
use Rattle.network_moves.proofs.Counts.{count-cons}
use Rattle.node_moves.specs.EndToEnd as ends
use Rattle.node_moves.specs.EndToEnd.{total}
use Rattle.node_moves.specs.Fates.{TakesEachIn, came_to, goes_on, is_delivered, is_refused, made_at, met_at, sccp_takes, submitted_at}
use Rattle.node_moves.specs.Laws as law
use Rattle.node_moves.specs.Laws.{any_fate, fates_that, is_user, users_that}
use Rattle.node_moves.specs.Networks as nodes
use Rattle.node_moves.specs.Networks.{IsNode, is_node, points}
use Rattle.node_moves.proofs.Booking.{all-in-order, takes-each}
use Rattle.node_moves.proofs.EndToEnd.{all-accounted}
use Rattle.node_moves.proofs.Ending.{ends-once}
use Rattle.network_rules.specs.Networks.{NetworkNode, NetworkState, first_network, goes_onward}
use Rattle.network_rules.specs.Outside.{Move}
use Rattle.network_rules.specs.Paths.{PassesInOrder}
use Rattle.network_rules.specs.Totals.{HaveLostNothing, IsPlaced, received_at, waiting_at}
use Rattle.network_rules.proofs.Booked.{onward_of, texts_of}
use Rattle.network_rules.proofs.PassedOn.{all-moves-pass}
use Rattle.network_rules.proofs.Sums.{sum-agree}
use Rattle.node_law.specs.Alike.{AreLinked}
use Rattle.node_law.specs.Ends.{AreUnbroken, EndsWhole, accepted_at, came_from, gone_at, waits_at}
use Rattle.node_law.specs.Sums as sums
use Rattle.node_law.specs.Sums.{AreAccountedFor}
use Rattle.node_law.proofs.Counting.{arrived-same, came-same}
use Rattle.node_law.proofs.Ending.{kept, lossless-unbroken, once-same, run, theirs, unbroken-there, v, w, whole-at}
use Rattle.node_law.proofs.Places.{listed-node, node-listed}
use Rattle.node_law.proofs.PassedOn.{taken-or-refused}
use Rattle.node_law.proofs.Steps.{AreKept, AreSame}
use Rattle.node_law.proofs.Points.{AreAll, sum-listed, sum-nothing, sum-plus}

-- ---- what came from all nodes came to all

abbrev among : (ℕ → Bool) → (ℕ → ℕ) → ℕ → ℕ
among is f n = sum_to (λ x. if is x then f x else 0) n

sum-four : (f a b c d : ℕ → ℕ) (n : ℕ) → ((k : ℕ) → f k ≡ a k + b k + c k + d k) → sum_to f n ≡ sum_to a n + sum_to b n + sum_to c n + sum_to d n
sum-four f a b c d zero e = refl
sum-four f a b c d (suc n) e = omega (arith, sum-four f a b c d n e, e n)

module _ (is : ℕ → Bool) (a b c d e f g h i : ℕ → ℕ) (each : (x : ℕ) → is x ≡ true → a x + b x + c x ≡ d x + e x + f x + g x + h x + i x) where
  here : (x : ℕ) (q : Bool) → is x ≡ q
      → (if q then a x else 0) + (if q then b x else 0) + (if q then c x else 0)
      ≡ (if q then d x else 0) + (if q then e x else 0) + (if q then f x else 0) + (if q then g x else 0) + (if q then h x else 0) + (if q then i x else 0)
  here x true k = each x k
  here x false k = refl

  sum-nine : (n : ℕ) → among is a n + among is b n + among is c n ≡ among is d n + among is e n + among is f n + among is g n + among is h n + among is i n
  sum-nine zero = refl
  sum-nine (suc n) = omega (arith, sum-nine n, here n (is n) refl)

module _ (settings : (point : ℕ) → Configuration) (u : nodes.NetworkState) (test : Message → Bool) where
  come-split : (x : ℕ) → TakesEachIn settings u x
      → came_to settings u any_fate test x ≡ came_to settings u (goes_on (settings x)) test x + came_to settings u is_refused test x + came_to settings u (is_delivered (settings x)) test x + came_to settings u (sccp_takes (settings x)) test x
  come-split x takes =
      sum-four (λ link. fates_that any_fate test ((u.node x).came link)) (λ link. fates_that (goes_on (settings x)) test ((u.node x).came link)) (λ link. fates_that is_refused test ((u.node x).came link))
      (λ link. fates_that (is_delivered (settings x)) test ((u.node x).came link)) (λ link. fates_that (sccp_takes (settings x)) test ((u.node x).came link)) (length (settings x).links) (λ link. takes.came link test)

  balance : (x : ℕ) → law.EndsOnce settings u x → TakesEachIn settings u x
      → submitted_at settings u any_fate test x + came_to settings u any_fate test x + made_at settings u test x
      ≡ law.came_from settings u test x + law.waits_at settings u test x + law.gone_at settings u test x + met_at settings u is_refused test x + met_at settings u (is_delivered (settings x)) test x
      + met_at settings u (sccp_takes (settings x)) test x
  balance x once takes = omega (arith, come-split x takes, takes.submitted test, takes.accepted test, once.once test)

  rest : (sub come made from waits gone refused delivered taken : ℕ) → sub + come + made ≡ from + waits + gone + refused + delivered + taken → sub + made ≡ delivered + taken + refused + waits + gone → from ≡ come
  rest sub come made from waits gone refused delivered taken e f = omega (arith, e, f)

  across : ((x : ℕ) → IsNode settings x → law.EndsOnce settings u x) → ((x : ℕ) → TakesEachIn settings u x) → ends.IsAccounted settings u
      → total settings u (law.came_from settings u test) ≡ total settings u (came_to settings u any_fate test)
  across once takes accounted =
      rest (total settings u (submitted_at settings u any_fate test)) (total settings u (came_to settings u any_fate test)) (total settings u (made_at settings u test)) (total settings u (law.came_from settings u test))
      (total settings u (law.waits_at settings u test)) (total settings u (law.gone_at settings u test)) (total settings u (met_at settings u is_refused test))
      (total settings u (λ x. met_at settings u (is_delivered (settings x)) test x)) (total settings u (λ x. met_at settings u (sccp_takes (settings x)) test x))
      (sum-nine (is_node settings) (submitted_at settings u any_fate test) (came_to settings u any_fate test) (made_at settings u test) (law.came_from settings u test) (law.waits_at settings u test) (law.gone_at settings u test)
      (met_at settings u is_refused test) (λ x. met_at settings u (is_delivered (settings x)) test x) (λ x. met_at settings u (sccp_takes (settings x)) test x)
      (λ x fx. balance x (once x fx) (takes x)) points)
      (accounted.with_sccp test)

-- ---- at each node

-- those that pass a test, and the others
split : (test on : Message → Bool) (ms : List Message) → count_by test ms ≡ count_by test (filter (λ m. not (on m)) ms) + count_by test (filter on ms)
split test on [] = refl
split test on (m ∷ ms) = by (on m) refl (split test on ms)
  where
    apart : (k s a b : ℕ) → s ≡ a + b → k + s ≡ a + (k + b)
    apart k s a b e = omega (arith, e)

    before : (k s a b : ℕ) → s ≡ a + b → k + s ≡ k + a + b
    before k s a b e = omega (arith, e)

    off : List Message
    off = filter (λ k. not (on k)) ms

    its : List Message
    its = filter on ms

    by : (q : Bool) → on m ≡ q → count_by test ms ≡ count_by test off + count_by test its → count_by test (m ∷ ms) ≡ count_by test (filter (λ k. not (on k)) (m ∷ ms)) + count_by test (filter on (m ∷ ms))
    by true e rest =
        count-cons test m ms ∙ apart (one_if (test m)) (count_by test ms) (count_by test off) (count_by test its) rest ∙ ap (λ (n : ℕ). count_by test off + n) (sym (count-cons test m its))
        ∙ ap (λ (b : Bool). count_by test (if not b then m ∷ off else off) + count_by test (if b then m ∷ its else its)) (sym e)
    by false e rest =
        count-cons test m ms ∙ before (one_if (test m)) (count_by test ms) (count_by test off) (count_by test its) rest ∙ ap (λ (n : ℕ). n + count_by test its) (sym (count-cons test m off))
        ∙ ap (λ (b : Bool). count_by test (if not b then m ∷ off else off) + count_by test (if b then m ∷ its else its)) (sym e)

-- ---- over all nodes

module _ (settings : (point : ℕ) → Configuration) (numbers : List ℕ) (placed : IsPlaced settings numbers) (z : NetworkState) (u : nodes.NetworkState) (stay : AreKept settings z) (same : AreSame settings z u)
    (passes : (y : ℕ) → PassesInOrder (z.node y)) (once : (x : ℕ) → IsNode settings x → law.EndsOnce settings u x) (takes : (x : ℕ) → TakesEachIn settings u x) (summed : ends.IsAccounted settings u) where
  all-points : AreAll (is_node settings) numbers points
  all-points = record {
    inside = λ p its. (let well : IsWell (settings p) = placed.well p its in subst (λ (k : ℕ). k < points) (placed.own p) well.own);
    pass = λ p its. listed-node settings numbers placed p its;
    listed = λ p fx. node-listed settings numbers placed p fx;
    once = λ p its. placed.once p its;
  }

  module _ (test : Message → Bool) where
    abbrev each : (NetworkNode → List Message) → ℕ
    each list = sum_by (λ y. users_that test (list (z.node y))) numbers

    -- as many came from all nodes as came to all
    come : sum_by (came_from z test) numbers ≡ each (λ x. texts_of x.arrived)
    come =
        sum-agree (came_from z test) (law.came_from settings u test) numbers
        (λ p its. came-same settings numbers placed z u stay same test p (listed-node settings numbers placed p its))
        ∙ sum-listed (law.came_from settings u test) (is_node settings) numbers points all-points
        ∙ across settings u test once takes summed
        ∙ sym (sum-listed (came_to settings u any_fate test) (is_node settings) numbers points all-points)
        ∙ sum-agree (came_to settings u any_fate test) (λ p. users_that test (texts_of (z.node p).arrived)) numbers
        (λ p its. sym (arrived-same settings numbers placed z u stay same test p (listed-node settings numbers placed p its)))

    booked : (y : ℕ) → users_that test (z.node y).accepted + users_that test (z.node y).refused
        ≡ users_that test (z.node y).entered + users_that test (onward_of (z.node y).exchange.settings (texts_of (z.node y).arrived))
    booked y = taken-or-refused test (z.node y) (passes y)

    all-booked-so : each (λ x. x.accepted) + each (λ x. x.refused) ≡ each (λ x. x.entered) + each (λ x. onward_of x.exchange.settings (texts_of x.arrived))
    all-booked-so =
        sym (sum-plus (λ y. users_that test (z.node y).accepted) (λ y. users_that test (z.node y).refused) numbers)
        ∙ sum-agree (λ y. users_that test (z.node y).accepted + users_that test (z.node y).refused)
        (λ y. users_that test (z.node y).entered + users_that test (onward_of (z.node y).exchange.settings (texts_of (z.node y).arrived))) numbers (λ y its. booked y)
        ∙ sum-plus (λ y. users_that test (z.node y).entered) (λ y. users_that test (onward_of (z.node y).exchange.settings (texts_of (z.node y).arrived))) numbers

    received : each (λ x. texts_of x.arrived) ≡ sums.users_in_all test numbers (received_at z) + each (λ x. onward_of x.exchange.settings (texts_of x.arrived))
    received =
        sum-agree (λ y. users_that test (texts_of (z.node y).arrived)) (λ y. users_that test (received_at z y) + users_that test (onward_of (z.node y).exchange.settings (texts_of (z.node y).arrived))) numbers
        (λ y its. split (λ m. is_user m && test m) (goes_onward (z.node y).exchange.settings) (texts_of (z.node y).arrived))
        ∙ sum-plus (λ y. users_that test (received_at z y)) (λ y. users_that test (onward_of (z.node y).exchange.settings (texts_of (z.node y).arrived))) numbers

    ended : each (λ x. x.accepted) ≡ sum_by (came_from z test) numbers + sum_by (waits_at z test) numbers + sum_by (gone_at z test) numbers
    ended =
        sum-agree (accepted_at z test) (λ y. came_from z test y + waits_at z test y + gone_at z test y) numbers
        (λ y its.
        let fy : IsNode settings y = listed-node settings numbers placed y its in
        (once-same settings numbers placed z u stay same y fy (once y fy)).once test)
        ∙ sum-plus (λ y. came_from z test y + waits_at z test y) (gone_at z test) numbers
        ∙ ap (λ (k : ℕ). k + sum_by (gone_at z test) numbers) (sum-plus (came_from z test) (waits_at z test) numbers)

    last-sum : (acc ref ent onw arr rec wait gone from : ℕ) → acc + ref ≡ ent + onw → arr ≡ rec + onw → acc ≡ from + wait + gone → from ≡ arr → ent ≡ rec + wait + ref + gone
    last-sum acc ref ent onw arr rec wait gone from e f g h = omega (arith, e, f, g, h)

    pub accounted-by :
        sums.users_in_all test numbers (λ y. (z.node y).entered)
        ≡ sums.users_in_all test numbers (received_at z) + sums.users_in_all test numbers (waiting_at z) + sums.users_in_all test numbers (λ y. (z.node y).refused) + sum_by (gone_at z test) numbers
    accounted-by =
        last-sum (each (λ x. x.accepted)) (each (λ x. x.refused)) (each (λ x. x.entered)) (each (λ x. onward_of x.exchange.settings (texts_of x.arrived))) (each (λ x. texts_of x.arrived))
        (sums.users_in_all test numbers (received_at z)) (sums.users_in_all test numbers (waiting_at z)) (sum_by (gone_at z test) numbers) (sum_by (came_from z test) numbers)
        all-booked-so received ended come

-- ---- while no node counts a break

module _ (settings : (point : ℕ) → Configuration) (numbers : List ℕ) (moves : List Move) (placed : IsPlaced settings numbers) (linked : AreLinked (first_network settings)) where
  abbrev z : NetworkState
  z = w settings numbers moves placed linked

  pub accounted : AreUnbroken numbers z → AreAccountedFor numbers z
  accounted none =
      let whole : law.IsUnbroken settings (v settings numbers moves placed linked) = unbroken-there settings numbers moves placed linked none in
      record {
        once = λ test.
            accounted-by settings numbers placed z (v settings numbers moves placed linked) (kept settings numbers moves placed linked) (run settings numbers moves placed linked).same
            (λ y. all-moves-pass (first_network settings) moves y)
            (λ x fx. ends-once settings (run settings numbers moves placed linked).steps x (theirs settings numbers moves placed linked) fx whole)
            (λ x. takes-each settings (v settings numbers moves placed linked) x (all-in-order settings (run settings numbers moves placed linked).steps x))
            (all-accounted settings (run settings numbers moves placed linked).steps (theirs settings numbers moves placed linked) whole)
            test;
      }

  pub none-gone : (test : Message → Bool) → HaveLostNothing numbers z → sum_by (gone_at z test) numbers ≡ 0
  none-gone test none =
      sum-agree (gone_at z test) (λ y. 0) numbers
      (λ y its.
      let e : EndsWhole z y = whole-at settings numbers moves placed linked none y (listed-node settings numbers placed y its) in
      less (accepted_at z test y) (came_from z test y) (waits_at z test y) (e.once test))
      ∙ sum-nothing (λ y. 0) numbers (λ y. refl)
    where
      less : (a b c : ℕ) → a ≡ b + c → a - (b + c) ≡ 0
      less a b c e = omega (arith, e)

pub all-summed : sums.each_message_is_accounted_for
all-summed settings numbers moves placed linked none = accounted settings numbers moves placed linked none

pub all-whole : sums.networks_lose_nothing
all-whole settings numbers moves placed linked none =
    record {
      once = λ test.
          (accounted settings numbers moves placed linked (lossless-unbroken settings numbers moves placed linked none)).once test ∙ last _ _ (none-gone settings numbers moves placed linked test none);
    }
  where
    last : (a b : ℕ) → b ≡ 0 → a + b ≡ a
    last a b e = omega (arith, e)
