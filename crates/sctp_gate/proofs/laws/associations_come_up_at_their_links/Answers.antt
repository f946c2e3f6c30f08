use Rattle.exchange.specs.KeptQueues.{kept}
use Rattle.exchange_rules.specs.Queues.{whole}
use Rattle.sctp_gate.proofs.Rising.{all-come-up}
use Rattle.sctp_gate.proofs.laws.associations_come_up_at_their_links.Goals as goal

pub returns : goal.returns
returns c = record { whole = all-come-up whole; kept = all-come-up kept }
