use Rattle.std.proofs.Common.{◌<◌, length, refl, ◌∙◌, arith}
use Rattle.std.specs.Prelude.{get_or}
use Rattle.std.proofs.lemmas.List.{length-set}
use Rattle.sctp_bundling.proofs.Sacks.{block-more}
use Rattle.sctp_bundling.proofs.gaps.write_blocks.Goals as goal

pub loop-i-preserved : goal.loop-i-preserved
loop-i-preserved c =
    let i = c.loop-i.i in
    let items = c.args.blocks.now in
    let below : i < length items = c.loop-i-test.true in
    record {
      long = length-set c.loop-i.out i _ ∙ c.loop-i.invariant.long;
      blocks = block-more c.loop-i.out items i (record { start = (get_or items i (record { start = 0; end = 0 })).start; end = (get_or items i (record { start = 0; end = 0 })).end })
          (get_or items i (record { start = 0; end = 0 })) (record { start = 0; end = 0 }) (omega (arith, below, c.loop-i.invariant.long, c.requires)) below refl refl c.loop-i.invariant.blocks;
    }
