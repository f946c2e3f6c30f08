use Rattle.std.proofs.Common.{refl}
use Rattle.sctp_gate.specs.Watching.{Failed}
use Rattle.sctp_links.proofs.Counted.{seen-counted}
use Rattle.sctp_links.proofs.observer.GateObserverWatch.failed.Goals as goal

pub returns-in_default : goal.returns-in_default
returns-in_default g c = record {
  more = λ sent seen h. (h.0, h.1, h.2, h.3, h.4, λ began from. seen-counted g.K.Origin.link sent seen (Failed _) began _ _ (h.5 began from) (rw (← c.failed_by.ensures, c.in_default.is) refl));
}

pub returns : goal.returns
returns g c = record {
  more = λ sent seen h. (h.0, h.1, h.2, h.3, h.4, λ began from. seen-counted g.K.Origin.link sent seen (Failed _) began _ _ (h.5 began from) (rw (← c.failed_by.ensures, c.in-Some.is, ← h.0) c.was_set_back.ensures));
}
