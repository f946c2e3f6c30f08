use Rattle.std.proofs.Common.{arith}
use Rattle.sccp_codec.proofs.ManagementTexts.{value-management, only-management, fault-management}
use Rattle.sccp_codec.proofs.management.SubsystemManagement.read.Goals as goal

pub returns-clause-value : goal.returns-clause-value
returns-clause-value c = value-management c.args.octets.now c.read.result (λ i. omega (arith, c.type_inv.octets i)) c.read.ensures

pub returns-clause-only : goal.returns-clause-only
returns-clause-only c = only-management c.args.octets.now c.read.result c.read.ensures

pub returns-clause-fault : goal.returns-clause-fault
returns-clause-fault c = fault-management c.args.octets.now c.read.result c.read.ensures
