use Rattle.std.proofs.Common.{refl}
use Rattle.sctp_endpoint.proofs.endpoint.Endpoint.new.Goals as goal

pub returns : goal.returns
returns c = rw (c.new.ensures, c.new-2.ensures, c.in_ok-new-2.ensures, c.in_ok-new-3.ensures) refl
