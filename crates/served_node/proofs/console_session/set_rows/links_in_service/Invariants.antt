-- So many of the links so far are such.
use Rattle.std.proofs.Common.{◌≡◌, ◌≤◌}
use Rattle.served_node.specs.Listings.{count_first, serves_set}
use Rattle.served_node.proofs.console_session.set_rows.links_in_service.Given as goal

abbrev pub invariant-loop-k : goal.invariant-loop-k
invariant-loop-k l = record {
  counted : l.count ≡ count_first (serves_set l.fn.exchange l.fn.set) l.k;
  few : l.count ≤ l.k;
}
