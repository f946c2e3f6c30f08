use Rattle.std.proofs.Common.{◌∙◌}
use Rattle.crc32c.proofs.Linear.{chunk_loop}
use Rattle.crc32c.proofs.remainder_by_eights.Goals as goal

pub eights-preserved : goal.eights-preserved
eights-preserved c =
    let parts = c.in-Some.ensures.cases in
    chunk_loop c.eights.remainder c.after_eight-remainder.result 8 c.eights.rest.now c.in-Some.eight.now c.in-Some.behind.now parts.0 parts.1 c.after_eight-remainder.ensures
    ∙ c.eights.invariant
