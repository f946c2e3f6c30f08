use Rattle.std.proofs.Common.{refl, arith, map, List}
use Rattle.std.specs.List.{flat_map}
use Rattle.sctp_codec.specs.declared.chunk.Block.{Block}
use Rattle.sctp_codec.specs.Writing.{block_octets}
use Rattle.sctp_codec.specs.Values.{block_of}
use Rattle.sctp_codec.proofs.Joined.{one_written}
use Rattle.sctp_codec.proofs.writing.write_blocks.Goals as goal

pub each_block-preserved : goal.each_block-preserved
each_block-preserved c = record {
  count = omega (arith, c.write_block-end.ensures.count, c.each_block.invariant.count);
  text =
      one_written (λ (b : Block). block_octets (block_of b)) (λ (bs : List Block). flat_map block_octets (map block_of bs)) (λ x xs. refl) _ _ _ c.args.blocks.now c.each_block.block-index _ _
      (omega (arith, c.each_block-test.true)) refl c.write_block-end.ensures.text c.each_block.invariant.text;
}
