use Rattle.std.proofs.Common.{refl}
use Rattle.sctp_gate.proofs.Making.{handed-told}
use Rattle.sctp_gate.proofs.bridge.BridgeEndpointWatch.tell.Goals as goal

pub returns : goal.returns
returns g c = λ sent told h. (
  h.0,
  h.1,
  λ b from. handed-told g.W.Watch.has g.K.Origin.had b sent told _ _ _ _ _ (h.2 b from) c.hand_in.ensures.seen (rw (c.told-self.ensures, c.hand_in.ensures.exchange) refl),
)
