use Rattle.exchange_rules.proofs.OrderedLinks.{as-they-stand, stay-out}
use Rattle.exchange_rules.proofs.laws.peers.links_open_and_close_as_ordered.Goals as goal

pub returns-clause-out : goal.returns-clause-out
returns-clause-out c = stay-out

pub returns-clause-asks : goal.returns-clause-asks
returns-clause-asks c = as-they-stand
