-- The laws by counts, kept by a move that is characterized by what it makes and what it looks at.
use Rattle.pair_moves.proofs.Basics.{◌≡◌, ◌≢◌, ℕ, Bool, ◌+◌, List, count_by, ap, sym, arith, subst, ⊎_elim, cases_eq}
use Rattle.pair_moves.proofs.Definitions.{Message, last_accepted, Reading, Saying, turned_reading, is_order, is_answer, is_untrue, is_declaration, is_confirmation, LinkEnd, Line, Side, Pair, turned, turned_line, unreceived, BecomeAt, sum_to, under_way, one_if, saying, OrdersAreAwaited, WordsAreTrue, CodesAreOutstanding, user, EachOnce}
use Rattle.pair_moves.proofs.Counts.{sum-but}

-- ---- a line changes

-- what holds of each line before, and of the one that changes after, holds of each after
pub each-line : (p : Pair) (link : ℕ) (z : Line) (lines : ℕ → Line) → BecomeAt p link z lines → (P : ℕ → Line → Type 0) →
    ((k : ℕ) → k ≢ link → P k (p.line k)) → P link z → (k : ℕ) → P k (lines k)
each-line p link z lines set P before here k =
    ⊎_elim
    (λ (e : k ≡ link). subst (λ (j : ℕ). P j (lines j)) (sym e) (subst (P link) (sym set.here) here))
    (λ (d : k ≢ link). subst (P k) (sym (set.others k d)) (before k d))
    (cases_eq k link)

-- what is unreceived on all links, where one line changes
pub total-but : (p : Pair) (link : ℕ) (z : Line) (lines : ℕ → Line) → BecomeAt p link z lines → (test : Message → Bool) →
    sum_to (λ k. count_by test (unreceived (lines k))) p.links + count_by test (unreceived (p.line link))
    ≡ sum_to (λ k. count_by test (unreceived (p.line k))) p.links + count_by test (unreceived z)
total-but p link z lines set test =
    let at : Line → ℕ = λ y. count_by test (unreceived y) in
    let here : at (lines link) ≡ at z = ap at set.here in
    let s : sum_to (λ k. at (lines k)) p.links + at (p.line link) ≡ sum_to (λ k. at (p.line k)) p.links + at (lines link) =
    sum-but (λ k. at (p.line k)) (λ k. at (lines k)) p.links link set.inside (λ k d. ap at (set.others k d)) in
    omega (arith, s, here)

-- the same, seen from the far node
pub set-turned : (p : Pair) (link : ℕ) (z : Line) (lines : ℕ → Line) → BecomeAt p link z lines →
    BecomeAt (turned p) link (turned_line z) (λ k. turned_line (lines k))
set-turned p link z lines set = record {
  inside = set.inside;
  here = ap turned_line set.here;
  others = λ other d. ap turned_line (set.others other d);
}

-- ---- what a move makes, and what it looks at

pub record Books (p q : Pair) (made looked : List Message) : Type 0 where
  pub sends : (test : Message → Bool) → under_way test q ≡ under_way test p + count_by test made
  pub hears : (test : Message → Bool) → under_way test (turned q) + count_by test looked ≡ under_way test (turned p)

pub record Tallies (read : Reading) (p : Pair) : Type 0 where
  pub orders : OrdersAreAwaited read p
  pub words : WordsAreTrue read p
  pub codes : CodesAreOutstanding read p
  pub once : EachOnce read.there p

-- what one end says of a link is untrue if it is so of this end
abbrev pub untrue_of : (Message → Saying) → ℕ → LinkEnd → Message → Bool
untrue_of read link x = saying read (is_untrue link x.up (last_accepted x.queue))

module _ (read : Reading) where
  -- what a move makes and looks at agrees with the flags that it leaves
  pub record Agrees (p q : Pair) (made looked : List Message) : Type 0 where
    pub far : q.far ≡ p.far
    pub given_up : q.near.given_up ≡ p.near.given_up
    pub orders : (link : ℕ) →
        count_by (saying read.there (is_order link)) made + one_if (p.line link).near.awaited
        ≡ one_if (q.line link).near.awaited + count_by (saying read.back (is_answer link)) looked
    pub answers : (link : ℕ) →
        count_by (saying read.there (is_answer link)) made + one_if (p.line link).far.awaited
        ≡ one_if (q.line link).far.awaited + count_by (saying read.back (is_order link)) looked
    pub truth : (link : ℕ) → under_way (untrue_of read.there link (q.line link).near) p + count_by (untrue_of read.there link (q.line link).near) made ≡ 0
    pub far_truth : (link : ℕ) → under_way (untrue_of read.back link (q.line link).far) (turned p) ≡ 0
    pub declarations : (code : ℕ) →
        count_by (saying read.there (is_declaration code)) made + one_if (p.near.outstanding code)
        ≡ one_if (q.near.outstanding code) + count_by (saying read.back (is_confirmation code)) looked
    pub confirmations : (code : ℕ) →
        count_by (saying read.there (is_confirmation code)) made ≡ count_by (saying read.back (is_declaration code)) looked
    pub accepted : (test : Message → Bool) →
        count_by (user read.there test) q.near.accepted ≡ count_by (user read.there test) p.near.accepted + count_by (user read.there test) made
    pub received : (test : Message → Bool) →
        count_by (user read.back test) q.near.received ≡ count_by (user read.back test) p.near.received + count_by (user read.back test) looked

  pub tallies-there : (p q : Pair) (made looked : List Message) → Books p q made looked → Agrees p q made looked →
      Tallies read p → Tallies read q
  tallies-there p q made looked b a t = record {
    orders = λ link. omega (arith, b.sends (saying read.there (is_order link)), b.hears (saying read.back (is_answer link)), a.orders link, t.orders link);
    words = λ link. omega (arith, b.sends (untrue_of read.there link (q.line link).near), a.truth link);
    codes = λ code.
        let left : one_if (q.near.given_up code) ≡ one_if (p.near.given_up code) = ap (λ (f : ℕ → Bool). one_if (f code)) a.given_up in
        omega (arith, b.sends (saying read.there (is_declaration code)), b.hears (saying read.back (is_confirmation code)), a.declarations code, t.codes code, left);
    once = λ test.
        let same : count_by (user read.there test) q.far.received ≡ count_by (user read.there test) p.far.received = ap (λ (s : Side). count_by (user read.there test) s.received) a.far in
        omega (arith, b.sends (user read.there test), a.accepted test, t.once test, same);
  }

  pub tallies-back : (p q : Pair) (made looked : List Message) → Books p q made looked → Agrees p q made looked →
      Tallies (turned_reading read) (turned p) → Tallies (turned_reading read) (turned q)
  tallies-back p q made looked b a t = record {
    orders = λ link. omega (arith, b.sends (saying read.there (is_answer link)), b.hears (saying read.back (is_order link)), a.answers link, t.orders link);
    words = λ link. omega (arith, b.hears (untrue_of read.back link (q.line link).far), a.far_truth link);
    codes = λ code.
        let same : one_if (q.far.outstanding code) ≡ one_if (p.far.outstanding code) = ap (λ (s : Side). one_if (s.outstanding code)) a.far in
        let left : one_if (q.far.given_up code) ≡ one_if (p.far.given_up code) = ap (λ (s : Side). one_if (s.given_up code)) a.far in
        omega (arith, b.sends (saying read.there (is_confirmation code)), b.hears (saying read.back (is_declaration code)), a.confirmations code, t.codes code, same, left);
    once = λ test.
        let same : count_by (user read.back test) q.far.accepted ≡ count_by (user read.back test) p.far.accepted = ap (λ (s : Side). count_by (user read.back test) s.accepted) a.far in
        omega (arith, b.hears (user read.back test), a.received test, t.once test, same);
  }
