use Rattle.std.proofs.Common.{ap, ◌∙◌}
use Rattle.sccp_codec.specs.Management.{management_of, read_management}
use Rattle.sccp_codec.proofs.ManagementTexts.{read_management-written}
use Rattle.sccp_codec.proofs.management.SubsystemManagement.write.Goals as goal

pub returns-clause-back : goal.returns-clause-back
returns-clause-back c = ap read_management c.octets_of.ensures.text ∙ read_management-written (management_of c.args.self.now) c.octets_of.ensures.point
