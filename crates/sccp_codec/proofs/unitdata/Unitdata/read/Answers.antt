use Rattle.std.proofs.Common.{arith}
use Rattle.sccp_codec.proofs.MessageTexts.{value-read, only-read, fault-read}
use Rattle.sccp_codec.proofs.unitdata.Unitdata.read.Goals as goal

pub returns-clause-value : goal.returns-clause-value
returns-clause-value c = value-read c.args.octets.now c.read.result (λ i. omega (arith, c.type_inv.octets i)) c.read.ensures

pub returns-clause-only : goal.returns-clause-only
returns-clause-only c = only-read c.args.octets.now c.read.result c.read.ensures

pub returns-clause-fault : goal.returns-clause-fault
returns-clause-fault c = fault-read c.args.octets.now c.read.result c.read.ensures
