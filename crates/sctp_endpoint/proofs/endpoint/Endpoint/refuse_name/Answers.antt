use Rattle.sctp_endpoint.proofs.Answering.{short-name}
use Rattle.sctp_endpoint.proofs.endpoint.Endpoint.refuse_name.Goals as goal

pub returns-then-name-le-HOST_NAME_OCTETS : goal.returns-then-name-le-HOST_NAME_OCTETS
returns-then-name-le-HOST_NAME_OCTETS g c = rw (short-name c.args.name.now c.if-name-le-HOST_NAME_OCTETS.true) c.put.ensures
