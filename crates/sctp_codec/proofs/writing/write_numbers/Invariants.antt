use Rattle.std.proofs.Common.{◌≡◌, ◌+◌, ◌*◌, ◌++◌, take, drop}
use Rattle.std.specs.Int.{w32, to_be_bytes}
use Rattle.std.specs.List.{flat_map}
use Rattle.sctp_codec.proofs.writing.write_numbers.Given as goal

abbrev pub invariant-each_number : goal.invariant-each_number
invariant-each_number l = record {
  count : l.end ≡ l.at + 4 * l.number-index;
  text : take l.end l.out ++ flat_map (to_be_bytes w32) (drop l.number-index l.numbers) ≡ take l.fn.at l.fn.out ++ flat_map (to_be_bytes w32) l.fn.numbers;
}
