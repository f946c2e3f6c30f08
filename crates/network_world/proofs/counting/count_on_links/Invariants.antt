-- The sum over the links so far.
use Rattle.std.proofs.Common.{◌≡◌, ◌≤◌, ◌*◌, ◌^◌}
use Rattle.pair_moves.specs.Laws.{sum_to}
use Rattle.network_world.specs.Waiting.{kept_waiting_on}
use Rattle.network_world.proofs.counting.count_on_links.Given as goal

abbrev pub invariant-loop-link : goal.invariant-loop-link
invariant-loop-link g l = record {
  sum : l.count ≡ sum_to (kept_waiting_on (g.P.Pick.picks l.pick) l.near l.far) l.link;
  few : l.count ≤ l.link * 2 ^ 64;
}
