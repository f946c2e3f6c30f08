use Rattle.std.proofs.Common.{◌∙◌, arith}
use Rattle.sctp_endpoint.specs.Inside.{endpoint_in}
use Rattle.sctp_endpoint.proofs.Ticking.{heartbeat-added}
use Rattle.sctp_endpoint.proofs.endpoint.Endpoint.send_beat.Goals as goal

pub returns-then-size-le-CONTROL_OCTETS : goal.returns-then-size-le-CONTROL_OCTETS
returns-then-size-le-CONTROL_OCTETS c =
    rw (← c.self.view_is) (heartbeat-added (endpoint_in c.self.inside) c.args.now c.from.result c.add.new.self c.heartbeat_information-information.result c.nonce-nonce.result
    c.nonce-nonce.ensures
    (omega (arith, c.size.ensures.size, c.if-size-le-CONTROL_OCTETS.true)) (c.from.ensures ∙ c.timeout.ensures) c.heartbeat_information-information.ensures c.add.ensures)
