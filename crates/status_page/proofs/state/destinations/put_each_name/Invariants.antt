-- With the remaining sets, it gives what all of them give.
use Rattle.std.proofs.Common.{◌≡◌, ◌++◌, drop}
use Rattle.status_page.specs.States.{set_names}
use Rattle.status_page.proofs.state.destinations.put_each_name.Given as goal

abbrev pub invariant-loop-set : goal.invariant-loop-set
invariant-loop-set l = record {
  tokens : l.out.tokens ++ set_names l.fn.settings (drop l.set-index l.sets) ≡ l.fn.out.tokens ++ set_names l.fn.settings l.fn.sets;
  before : l.out.before ≡ l.fn.out.before;
}
