use Rattle.std.proofs.Common.{arith}
use Rattle.sctp_endpoint.proofs.endpoint.Endpoint.send_last_words.Goals as goal

pub put_packet-requires : goal.put_packet-requires
put_packet-requires g c = omega (arith, c.octets.ensures.size, c.self.invariant.control, c.requires)
