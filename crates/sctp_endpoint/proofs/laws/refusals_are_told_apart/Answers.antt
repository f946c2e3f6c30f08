use Rattle.sctp_endpoint.proofs.Refusing.{answered-or-refused, end-tries}
use Rattle.sctp_endpoint.proofs.laws.refusals_are_told_apart.Goals as goal

pub returns-clause-inits : goal.returns-clause-inits
returns-clause-inits c = answered-or-refused

pub returns-clause-init_acks : goal.returns-clause-init_acks
returns-clause-init_acks c = end-tries
