use Rattle.std.proofs.Common.{◌≡◌}
use Rattle.sctp_codec.specs.Parameters.{counting, first_of_kind}
use Rattle.sctp_codec.specs.Values.{items_of}
use Rattle.sctp_codec.proofs.parameters.first_counting.Given as goal

abbrev pub invariant-each_parameter : goal.invariant-each_parameter
invariant-each_parameter l = first_of_kind l.kind (counting (items_of l.item-iterator)) ≡ first_of_kind l.kind (counting (items_of l.fn.parameters))
