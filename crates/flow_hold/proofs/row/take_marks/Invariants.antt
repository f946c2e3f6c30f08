-- the marks before the place are taken from the counts, and are gone
use Rattle.flow_hold.proofs.Basics.{◌≡◌, ℕ, ◌-◌, get_or}
use Rattle.flow_hold.proofs.Clearing.{marks_gone, mark_before}
use Rattle.flow_hold.proofs.row.take_marks.Given as goal

abbrev pub invariant-loop-place : goal.invariant-loop-place
invariant-loop-place l = record {
  marks : l.marks ≡ marks_gone l.fn.marks l.place;
  counts : (flow : ℕ) → get_or l.counts flow 0 ≡ get_or l.fn.counts flow 0 - mark_before l.first l.place flow l.fn.marks;
}
