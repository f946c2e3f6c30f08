use Rattle.exchange.specs.KeptQueues.{kept}
use Rattle.exchange_rules.specs.Queues.{whole}
use Rattle.sctp_gate.proofs.Agreeing.{agrees}
use Rattle.sctp_gate.proofs.laws.settled_gates_do_what_their_links_want.Goals as goal

pub returns : goal.returns
returns c = record { whole = agrees whole; kept = agrees kept }
