-- Moves that make nothing and look at nothing.
use Rattle.pair_moves.proofs.Basics.{◌≡◌, ◌⊎◌, ℕ, Bool, true, ◌+◌, [], count_by, refl, ap, arith}
use Rattle.pair_moves.proofs.Definitions.{Message, Reading, Saying, turned_reading, last_accepted, LinkEnd, Line, Side, Pair, turned, turned_line, unreceived, BecomeAt, under_way, one_if, user}
use Rattle.pair_moves.proofs.Counts.{way-within}
use Rattle.pair_moves.proofs.Words.{untrue-more}
use Rattle.pair_moves.proofs.Lines.{IsLine}
use Rattle.pair_moves.proofs.Books.{Agrees, untrue_of, each-line}
use Rattle.pair_moves.proofs.Sound.{Sound, kept-sound, books-side, books-line}

-- what users accepted and received, and the codes, are as before
pub record SameLists (s t : Side) : Type 0 where
  pub accepted : s.accepted ≡ t.accepted
  pub received : s.received ≡ t.received
  pub outstanding : s.outstanding ≡ t.outstanding
  pub given_up : s.given_up ≡ t.given_up

-- the flags of a line let what is under way be
pub record SameFlags (read : Reading) (p : Pair) (link : ℕ) (z : Line) : Type 0 where
  pub awaited : one_if (p.line link).near.awaited ≡ one_if z.near.awaited
  pub far_awaited : one_if (p.line link).far.awaited ≡ one_if z.far.awaited
  pub truth : under_way (untrue_of read.there link z.near) p ≡ 0
  pub far_truth : under_way (untrue_of read.back link z.far) (turned p) ≡ 0

module _ (read : Reading) (p : Pair) where
  quiet-agrees : (q : Pair) → q.far ≡ p.far → SameLists q.near p.near → ((link : ℕ) → SameFlags read p link (q.line link)) → Agrees read p q [] []
  quiet-agrees q far s flags = record {
    far = far;
    given_up = s.given_up;
    orders = λ link. omega (arith, (flags link).awaited);
    answers = λ link. omega (arith, (flags link).far_awaited);
    truth = λ link. omega (arith, (flags link).truth);
    far_truth = λ link. (flags link).far_truth;
    declarations = λ code. let e : one_if (q.near.outstanding code) ≡ one_if (p.near.outstanding code) = ap (λ f. one_if (f code)) s.outstanding in omega (arith, e);
    confirmations = λ code. omega arith;
    accepted = λ test. let e : count_by (user read.there test) q.near.accepted ≡ count_by (user read.there test) p.near.accepted = ap (count_by (user read.there test)) s.accepted in omega (arith, e);
    received = λ test. let e : count_by (user read.back test) q.near.received ≡ count_by (user read.back test) p.near.received = ap (count_by (user read.back test)) s.received in omega (arith, e);
  }

  pub as_before : Sound read p → (link : ℕ) → SameFlags read p link (p.line link)
  as_before h link = record { awaited = omega arith; far_awaited = omega arith; truth = h.there.words link; far_truth = h.back.words link }

  -- the near node changes
  pub quiet-side : (s : Side) → SameLists s p.near →
      ((test : Message → Bool) → count_by test s.held + count_by test s.loose ≡ count_by test p.near.held + count_by test p.near.loose) →
      s.arrived ≡ p.near.arrived → Sound read p → Sound read (record p { near = s })
  quiet-side s same lists arrived h =
      kept-sound read p (record p { near = s }) [] []
      (books-side p s [] [] (λ test. omega (arith, lists test))
      (λ test. let e : count_by test s.arrived ≡ count_by test p.near.arrived = ap (count_by test) arrived in omega (arith, e)))
      (quiet-agrees (record p { near = s }) refl same (as_before h)) h.lines h

  -- a line changes too
  pub quiet-line : (link : ℕ) (z : Line) (lines : ℕ → Line) → BecomeAt p link z lines → (s : Side) → SameLists s p.near → SameFlags read p link z → IsLine z →
      ((test : Message → Bool) → count_by test s.held + count_by test s.loose + count_by test (unreceived z)
      ≡ count_by test p.near.held + count_by test p.near.loose + count_by test (unreceived (p.line link))) →
      ((test : Message → Bool) → count_by test (unreceived (turned_line z)) + count_by test s.arrived
      ≡ count_by test (unreceived (turned_line (p.line link))) + count_by test p.near.arrived) →
      Sound read p → Sound read (record p { line = lines; near = s })
  quiet-line link z lines set s same flags line sends hears h =
      kept-sound read p (record p { line = lines; near = s }) [] []
      (books-line p link z lines set s [] [] (λ test. omega (arith, sends test)) (λ test. omega (arith, hears test)))
      (quiet-agrees (record p { line = lines; near = s }) refl same (each-line p link z lines set (SameFlags read p) (λ k d. as_before h k) flags))
      (each-line p link z lines set (λ k y. IsLine y) (λ k d. h.lines k) line) h

  -- an end that didn't come up, and where nothing was accepted while it was down
  pub still-true : (link : ℕ) (x : LinkEnd) → (x.up ≡ true → (p.line link).near.up ≡ true) →
      ((p.line link).near.up ≡ true) ⊎ (last_accepted x.queue ≡ last_accepted (p.line link).near.queue) → Sound read p →
      under_way (untrue_of read.there link x) p ≡ 0
  still-true link x up last h =
      let old : LinkEnd = (p.line link).near in
      omega (
        arith,
        h.there.words link,
        way-within (untrue_of read.there link x) (untrue_of read.there link old) (untrue_of read.there link old) p
            (λ m. untrue-more link old.up x.up (last_accepted old.queue) (last_accepted x.queue) up last (read.there m)),
      )
