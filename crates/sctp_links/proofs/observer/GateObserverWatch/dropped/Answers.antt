use Rattle.std.proofs.Common.{refl}
use Rattle.sctp_gate.specs.Watching.{Dropped}
use Rattle.sctp_links.proofs.Counted.{seen-counted}
use Rattle.sctp_links.proofs.observer.GateObserverWatch.dropped.Goals as goal

pub returns : goal.returns
returns g c = record {
  more = λ sent seen h. (h.0, h.1, h.2, h.3, h.4, λ began from. seen-counted g.K.Origin.link sent seen (Dropped _) began _ _ (h.5 began from) refl);
}
