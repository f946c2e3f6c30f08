use Rattle.std.proofs.Common.{◌≡◌, length, map, take}
use Rattle.sctp_codec.specs.Values as value
use Rattle.sctp_rules.specs.Data.{block_of}
use Rattle.sctp_bundling.proofs.gaps.write_blocks.Given as goal

abbrev pub invariant-loop-i : goal.invariant-loop-i
invariant-loop-i l = record {
  long : length l.out ≡ 100;
  blocks : map value.block_of (take l.i l.out) ≡ map block_of (take l.i l.blocks);
}
