use Rattle.std.proofs.Common.{◌∙◌}
use Rattle.crc32c.proofs.Linear.{chunk_loop}
use Rattle.crc32c.proofs.remainder_below_32.Goals as goal

pub returns-in-Some : goal.returns-in-Some
returns-in-Some c =
    let parts = c.in-Some.ensures.cases in
    c.remainder_below_16.ensures ∙ chunk_loop c.args.before c.remainder_by_eights.result 16 c.args.octets.now c.in-Some.block.now c.in-Some.behind.now parts.0 parts.1 c.remainder_by_eights.ensures
