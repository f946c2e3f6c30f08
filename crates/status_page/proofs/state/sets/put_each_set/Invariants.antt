-- With the remaining sets, it gives what all of them give.
use Rattle.std.proofs.Common.{◌≡◌, ◌++◌, drop, flat_map}
use Rattle.status_page.specs.States.{set_tokens}
use Rattle.status_page.proofs.state.sets.put_each_set.Given as goal

abbrev pub invariant-loop-set : goal.invariant-loop-set
invariant-loop-set l = record {
  tokens : l.out.tokens ++ flat_map (set_tokens l.fn.points) (drop l.set-index l.sets) ≡ l.fn.out.tokens ++ flat_map (set_tokens l.fn.points) l.fn.sets;
  before : l.out.before ≡ l.fn.out.before;
}
