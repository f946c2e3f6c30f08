use Rattle.std.proofs.Common.{refl, ◌∙◌, arith}
use Rattle.crc32c.proofs.Linear.{octet_loop}
use Rattle.crc32c.proofs.remainder_by_octets.Goals as goal

pub octets-preserved : goal.octets-preserved
octets-preserved c =
    octet_loop c.octets.remainder c.after_octet-remainder.result c.args.octets.now c.octets.octet-index _ (omega (arith, c.octets-test.true)) refl c.after_octet-remainder.ensures
    ∙ c.octets.invariant
