use Rattle.exchange.specs.KeptQueues.{kept}
use Rattle.exchange_rules.specs.Queues.{whole}
use Rattle.sctp_gate.proofs.Rising.{seen-calls}
use Rattle.sctp_gate.proofs.laws.calls_do_what_is_seen_of_them.Goals as goal

pub returns : goal.returns
returns c = record { whole = seen-calls whole; kept = seen-calls kept }
