-- With the remaining counters, it gives what all of them give.
use Rattle.std.proofs.Common.{◌≡◌, ◌++◌, drop}
use Rattle.status_page.specs.States.{counter_members}
use Rattle.status_page.proofs.link_state.put_each.Given as goal

abbrev pub invariant-loop-counter : goal.invariant-loop-counter
invariant-loop-counter l = record {
  tokens : l.out.tokens ++ counter_members l.fn.row (drop l.counter-index l.counters) ≡ l.fn.out.tokens ++ counter_members l.fn.row l.fn.counters;
  before : l.out.before ≡ l.fn.out.before;
}
