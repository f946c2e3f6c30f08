use Rattle.settings.proofs.Basics.{◌≡◌, ◌≤◌, [], length, map, take, drop, vec_len, vec_capacity, entries_fault, link_of, link_fault}
use Rattle.settings.proofs.links.link_rows.Given as goal

abbrev pub invariant-loop-i : goal.invariant-loop-i
invariant-loop-i l = record {
  len : vec_len l.rows ≡ l.i;
  room : length l.links ≤ vec_capacity l.rows;
  rows : l.rows.items ≡ map (link_of l.sets) (take l.i l.links);
  fault : entries_fault (link_fault l.sets) (take l.i l.links) (drop l.i l.links) ≡ entries_fault (link_fault l.sets) [] l.links;
}
