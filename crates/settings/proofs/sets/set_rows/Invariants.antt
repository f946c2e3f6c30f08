use Rattle.settings.proofs.Basics.{◌≡◌, ◌≤◌, [], length, map, take, drop, vec_len, vec_capacity, entries_fault, set_of, set_fault}
use Rattle.settings.proofs.sets.set_rows.Given as goal

abbrev pub invariant-loop-i : goal.invariant-loop-i
invariant-loop-i l = record {
  len : vec_len l.rows ≡ l.i;
  room : length l.sets ≤ vec_capacity l.rows;
  rows : l.rows.items ≡ map set_of (take l.i l.sets);
  fault : entries_fault (set_fault l.own) (take l.i l.sets) (drop l.i l.sets) ≡ entries_fault (set_fault l.own) [] l.sets;
}
