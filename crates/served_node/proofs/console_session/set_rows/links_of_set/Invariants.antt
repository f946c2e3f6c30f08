-- So many of the links so far are such.
use Rattle.std.proofs.Common.{◌≡◌, ◌≤◌}
use Rattle.served_node.specs.Listings.{count_first, is_of_set}
use Rattle.served_node.proofs.console_session.set_rows.links_of_set.Given as goal

abbrev pub invariant-loop-k : goal.invariant-loop-k
invariant-loop-k l = record {
  counted : l.count ≡ count_first (is_of_set l.fn.settings l.fn.set) l.k;
  few : l.count ≤ l.k;
}
