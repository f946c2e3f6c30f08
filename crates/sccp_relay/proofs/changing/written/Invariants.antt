use Rattle.std.proofs.Common.{◌≡◌, ◌+◌, ◌++◌, take}
use Rattle.arrayvec.specs.ArrayVec.{array_vec_len}
use Rattle.sccp_codec.specs.Titles.{digits_in, packed}
use Rattle.sccp_relay.specs.Changing as rule
use Rattle.sccp_relay.proofs.changing.written.Given as goal

abbrev pub invariant-loop-index : goal.invariant-loop-index
invariant-loop-index l = record {
  octets : l.octets.items
      ≡ l.initial.octets.items ++ take l.index (packed (rule.changed_digits l.change (digits_in l.title.scheme l.title.digit_octets.now)));
  count : array_vec_len l.octets ≡ array_vec_len l.initial.octets + l.index;
}
