-- The routes so far, and those that are left, are all.
use Rattle.std.proofs.Common.{◌≡◌, ◌≤◌, ◌+◌, ◌*◌, ◌++◌, drop, length}
use Rattle.served_node.specs.Listings.{each_route}
use Rattle.served_node.specs.declared.console_session.route_rows.TheConstants.{ROUTE_OCTETS}
use Rattle.served_node.proofs.console_session.route_rows.push_each_route.Given as goal

abbrev pub invariant-loop-set : goal.invariant-loop-set
invariant-loop-set l = record {
  text : l.row.bytes ++ each_route l.exchange l.k (drop l.set-index l.sets) ≡ l.fn.row.bytes ++ each_route l.exchange l.k l.sets;
  short : length l.row.bytes ≤ length l.fn.row.bytes + ROUTE_OCTETS * l.set-index;
}
