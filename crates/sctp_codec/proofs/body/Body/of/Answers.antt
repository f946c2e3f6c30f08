use Rattle.sctp_codec.specs.Values.{items_of}
use Rattle.sctp_codec.specs.Packets.{lone}
use Rattle.sctp_codec.proofs.Alone.{given-is}
use Rattle.sctp_codec.proofs.body.Body.of.Goals as goal

pub invariant_of-result : goal.invariant_of-result
invariant_of-result c = record { is_alone = given-is c.alone.result (lone (items_of c.args.items)) c.alone.ensures }
