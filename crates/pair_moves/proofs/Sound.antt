-- What a move keeps besides order, characterized by what it changes at the near node and on one line.
use Rattle.pair_moves.proofs.Basics.{◌≡◌, ℕ, Bool, ◌+◌, List, count_by, arith}
use Rattle.pair_moves.proofs.Definitions.{Message, Reading, Saying, turned_reading, Line, Side, Pair, turned, turned_line, unreceived, BecomeAt}
use Rattle.pair_moves.proofs.Lines.{IsLine}
use Rattle.pair_moves.proofs.Books.{Books, Agrees, Tallies, total-but, set-turned, tallies-there, tallies-back}

pub record Sound (read : Reading) (p : Pair) : Type 0 where
  pub lines : (link : ℕ) → IsLine (p.line link)
  pub there : Tallies read p
  pub back : Tallies (turned_reading read) (turned p)

pub kept-sound : (read : Reading) (p q : Pair) (made looked : List Message) → Books p q made looked → Agrees read p q made looked →
    ((link : ℕ) → IsLine (q.line link)) → Sound read p → Sound read q
kept-sound read p q made looked b a lines h = record {
  lines = lines;
  there = tallies-there read p q made looked b a h.there;
  back = tallies-back read p q made looked b a h.back;
}

-- ---- books, by what changes at the near node and on one line

pub books-side : (p : Pair) (s : Side) (made looked : List Message) →
    ((test : Message → Bool) → count_by test s.held + count_by test s.loose ≡ count_by test p.near.held + count_by test p.near.loose + count_by test made) →
    ((test : Message → Bool) → count_by test s.arrived + count_by test looked ≡ count_by test p.near.arrived) →
    Books p (record p { near = s }) made looked
books-side p s made looked sends hears = record {
  sends = λ test. omega (arith, sends test);
  hears = λ test. omega (arith, hears test);
}

pub books-line : (p : Pair) (link : ℕ) (z : Line) (lines : ℕ → Line) → BecomeAt p link z lines → (s : Side) (made looked : List Message) →
    ((test : Message → Bool) → count_by test s.held + count_by test s.loose + count_by test (unreceived z)
    ≡ count_by test p.near.held + count_by test p.near.loose + count_by test (unreceived (p.line link)) + count_by test made) →
    ((test : Message → Bool) → count_by test (unreceived (turned_line z)) + count_by test s.arrived + count_by test looked
    ≡ count_by test (unreceived (turned_line (p.line link))) + count_by test p.near.arrived) →
    Books p (record p { line = lines; near = s }) made looked
books-line p link z lines set s made looked sends hears = record {
  sends = λ test. omega (arith, sends test, total-but p link z lines set test);
  hears = λ test. omega (arith, hears test, total-but (turned p) link (turned_line z) (λ k. turned_line (lines k)) (set-turned p link z lines set) test);
}
