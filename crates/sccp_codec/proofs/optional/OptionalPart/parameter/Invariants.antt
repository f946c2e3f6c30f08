use Rattle.std.proofs.Common.{length}
use Rattle.sccp_codec.specs.ExtendedValues.{parameters_of}
use Rattle.sccp_codec.proofs.NamedTexts.{Left}
use Rattle.sccp_codec.proofs.optional.OptionalPart.parameter.Given as goal

abbrev pub invariant-each_parameter : goal.invariant-each_parameter
invariant-each_parameter l = Left (parameters_of l.fn.self) l.name l.rest

abbrev pub decreases-each_parameter : goal.decreases-each_parameter
decreases-each_parameter l = length l.rest
