use Rattle.sctp_endpoint.proofs.Keyed.{opened-kept}
use Rattle.sctp_endpoint.proofs.endpoint.Endpoint.cookie_in.Goals as goal

pub returns : goal.returns
returns c = rw (← c.self.view_is) (opened-kept c.self.inside.cookie_key c.args.octets.now c.open.result c.open.ensures.signed c.open.ensures.exact)
