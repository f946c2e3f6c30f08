-- With the remaining sets, it gives what all of them give.
use Rattle.std.proofs.Common.{◌≡◌, ◌++◌, drop}
use Rattle.status_page.specs.States.{way_statuses}
use Rattle.status_page.proofs.state.destinations.put_each_status.Given as goal

abbrev pub invariant-loop-way : goal.invariant-loop-way
invariant-loop-way l = record {
  tokens : l.out.tokens ++ way_statuses l.exchange l.destination (drop l.way-index l.ways) ≡ l.fn.out.tokens ++ way_statuses l.exchange l.destination l.ways;
  before : l.out.before ≡ l.fn.out.before;
}
