-- With the remaining kinds, it gives what all of them give.
use Rattle.std.proofs.Common.{◌≡◌, ◌++◌, drop}
use Rattle.status_page.specs.States.{kind_members}
use Rattle.status_page.proofs.state.notices.put_each_kind.Given as goal

abbrev pub invariant-loop-kind : goal.invariant-loop-kind
invariant-loop-kind l = record {
  tokens : l.out.tokens ++ kind_members l.fn.notices (drop l.kind-index l.kinds) ≡ l.fn.out.tokens ++ kind_members l.fn.notices l.fn.kinds;
  before : l.out.before ≡ l.fn.out.before;
}
