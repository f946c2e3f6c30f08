use Rattle.sctp_gate.proofs.Making.{handed-sent}
use Rattle.sctp_gate.proofs.bridge.BridgeEndpointWatch.send.Goals as goal

pub returns : goal.returns
returns g c = λ sent told h. (h.0, h.1, λ b from. handed-sent g.W.Watch.has g.K.Origin.had b sent told _ _ _ _ (h.2 b from) c.send.ensures)
