use Rattle.settings.proofs.Basics.{◌≡◌, ◌≤◌, [], length, map, take, drop, vec_len, vec_capacity, entries_fault, title_of, title_key, title_fault}
use Rattle.settings.proofs.titles.title_rows.Given as goal

abbrev pub invariant-loop-i : goal.invariant-loop-i
invariant-loop-i l = record {
  len : vec_len l.rows ≡ l.i;
  room : length l.titles ≤ vec_capacity l.rows;
  rows : l.rows.items ≡ map title_of (take l.i l.titles);
  seen : l.seen.keys ≡ map title_key (take l.i l.titles);
  fault : entries_fault title_fault (take l.i l.titles) (drop l.i l.titles) ≡ entries_fault title_fault [] l.titles;
}
