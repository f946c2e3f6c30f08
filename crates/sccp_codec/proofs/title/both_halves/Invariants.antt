use Rattle.std.proofs.Common.{◌≡◌, ◌*◌, take}
use Rattle.std.specs.List.{flat_map}
use Rattle.arrayvec.specs.ArrayVec.{array_vec_len}
use Rattle.sccp_codec.specs.Titles.{halves}
use Rattle.sccp_codec.proofs.title.both_halves.Given as goal

abbrev pub invariant-loop-octet : goal.invariant-loop-octet
invariant-loop-octet l = record {
  digits : l.digits.items ≡ flat_map halves (take l.octet-index l.octets);
  count : array_vec_len l.digits ≡ 2 * l.octet-index;
}
