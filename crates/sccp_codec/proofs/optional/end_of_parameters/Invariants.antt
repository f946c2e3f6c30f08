use Rattle.std.proofs.Common.{◌≡◌, ◌-◌, length, drop}
use Rattle.sccp_codec.specs.Extended.{read_parameters}
use Rattle.sccp_codec.specs.Optional.{extent}
use Rattle.sccp_codec.proofs.optional.end_of_parameters.Given as goal

abbrev pub invariant-each_parameter : goal.invariant-each_parameter
invariant-each_parameter l = extent l.at (read_parameters (drop l.at l.octets)) ≡ extent 0 (read_parameters l.octets)

abbrev pub decreases-each_parameter : goal.decreases-each_parameter
decreases-each_parameter l = length l.octets - l.at
