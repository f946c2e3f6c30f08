use Rattle.std.proofs.Common.{◌∙◌}
use Rattle.crc32c.proofs.Linear.{chunk_loop}
use Rattle.crc32c.proofs.remainder.Goals as goal

pub each_block-preserved : goal.each_block-preserved
each_block-preserved c =
    let parts = c.in-Some.ensures.cases in
    chunk_loop c.each_block.remainder c.remainder_by_eights-remainder.result 32 c.each_block.rest.now c.in-Some.block.now c.in-Some.behind.now parts.0 parts.1 c.remainder_by_eights-remainder.ensures
    ∙ c.each_block.invariant
