-- the distances below this one are marked
use Rattle.std.proofs.Common.{◌≡◌, ◌≤◌, ◌+◌, ℕ, ◌||◌, ◌&&◌, leb, ltb}
use Rattle.sctp_sending.specs.Gaps.{marked}
use Rattle.sctp_sending.proofs.marks.mark_between.Given as goal

abbrev pub invariant-loop-ahead : goal.invariant-loop-ahead
invariant-loop-ahead l = record {
  so_far : (a : ℕ) → marked l.marks a ≡ (marked l.fn.marks a || (leb l.fn.start a && ltb a l.ahead));
  most : l.ahead ≤ l.fn.end + 1;
}
