use Rattle.std.proofs.Common.{◌≡◌, ◌+◌, ◌*◌, ◌++◌, take, drop, map}
use Rattle.std.specs.List.{flat_map}
use Rattle.sctp_codec.specs.Writing.{block_octets}
use Rattle.sctp_codec.specs.Values.{block_of}
use Rattle.sctp_codec.proofs.writing.write_blocks.Given as goal

abbrev pub invariant-each_block : goal.invariant-each_block
invariant-each_block l = record {
  count : l.end ≡ l.at + 4 * l.block-index;
  text : take l.end l.out ++ flat_map block_octets (map block_of (drop l.block-index l.blocks)) ≡ take l.fn.at l.fn.out ++ flat_map block_octets (map block_of l.fn.blocks);
}
