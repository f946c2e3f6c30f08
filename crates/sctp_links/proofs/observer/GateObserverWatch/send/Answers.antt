use Rattle.sctp_links.proofs.Counted.{sent-counted}
use Rattle.sctp_links.proofs.observer.GateObserverWatch.send.Goals as goal

pub returns : goal.returns
returns g c = record {
  more = λ sent seen h. (h.0, h.1, h.2, h.3, h.4, λ began from. sent-counted g.K.Origin.link sent seen _ began _ _ (h.5 began from) c.datagram_went.ensures);
}
