use Rattle.std.proofs.Common.{[], refl}
use Rattle.sccp_codec.proofs.OptionalTexts.{are_parameters}
use Rattle.sccp_codec.proofs.optional.OptionalPart.none.Goals as goal

pub invariant_of-result : goal.invariant_of-result
invariant_of-result c = record { whole = (are_parameters [] [] refl refl).0 }

pub returns : goal.returns
returns c = (are_parameters [] [] refl refl).1
