-- The notices so far were put.
use Rattle.std.proofs.Common.{◌≡◌, ◌++◌}
use Rattle.status_page.specs.Each.{each}
use Rattle.status_page.specs.States.{notice_tokens}
use Rattle.status_page.proofs.state.notices.put_each_notice.Given as goal

abbrev pub invariant-loop-k : goal.invariant-loop-k
invariant-loop-k l = record {
  tokens : l.out.tokens ≡ l.fn.out.tokens ++ each (notice_tokens l.fn.points l.fn.exchange l.fn.notices) l.k;
  before : l.out.before ≡ l.fn.out.before;
}
