use Rattle.std.proofs.Common.{◌∙◌}
use Rattle.crc32c.proofs.Linear.{chunk_loop}
use Rattle.crc32c.proofs.remainder_below_16.Goals as goal

pub returns-in-Some : goal.returns-in-Some
returns-in-Some c =
    let parts = c.in-Some.ensures.cases in
    c.remainder_below_8.ensures ∙ chunk_loop c.args.before c.after_eight.result 8 c.args.octets.now c.in-Some.eight.now c.in-Some.behind.now parts.0 parts.1 c.after_eight.ensures
