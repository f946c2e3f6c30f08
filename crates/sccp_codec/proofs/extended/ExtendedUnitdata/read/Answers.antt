use Rattle.std.proofs.Common.{arith}
use Rattle.sccp_codec.proofs.ExtendedTexts.{value-extended, only-extended, fault-extended}
use Rattle.sccp_codec.proofs.extended.ExtendedUnitdata.read.Goals as goal

pub returns-clause-value : goal.returns-clause-value
returns-clause-value c = value-extended c.args.octets.now c.read_extended.result (λ i. omega (arith, c.type_inv.octets i)) c.read_extended.ensures

pub returns-clause-only : goal.returns-clause-only
returns-clause-only c = only-extended c.args.octets.now c.read_extended.result c.read_extended.ensures

pub returns-clause-fault : goal.returns-clause-fault
returns-clause-fault c = fault-extended c.args.octets.now c.read_extended.result c.read_extended.ensures
