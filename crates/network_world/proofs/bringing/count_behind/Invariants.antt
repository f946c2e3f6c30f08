-- The sum over the links so far.
use Rattle.std.proofs.Common.{◌≡◌, ◌≤◌, ◌*◌, ◌^◌}
use Rattle.pair_moves.specs.Laws.{sum_to}
use Rattle.network_world.specs.Bringing.{kept_behind}
use Rattle.network_world.proofs.bringing.count_behind.Given as goal

abbrev pub invariant-loop-link : goal.invariant-loop-link
invariant-loop-link l = record {
  same : l.exchange ≡ l.fn.exchange;
  sum : l.count ≡ sum_to (kept_behind l.number l.fn.exchange) l.link;
  few : l.count ≤ l.link * 2 ^ 64;
}
