use Rattle.settings.proofs.Basics.{◌≡◌, ◌≤◌, length, map, take, drop, vec_len, vec_capacity, list_all, natural, is_within}
use Rattle.settings.proofs.numbers.all_within.Given as goal

abbrev pub invariant-loop-i : goal.invariant-loop-i
invariant-loop-i l = record {
  len : vec_len l.numbers ≡ l.i;
  room : length l.values ≤ vec_capacity l.numbers;
  numbers : l.numbers.items ≡ map natural (take l.i l.values);
  within : list_all (is_within l.low l.high) (drop l.i l.values) ≡ list_all (is_within l.low l.high) l.values;
}
