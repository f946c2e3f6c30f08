use Rattle.exchange_rules.proofs.LastingLinks.{links-first, links-stay, l7-watches}
use Rattle.exchange_rules.proofs.laws.links.links_stay_steady.Goals as goal

pub returns-clause-first : goal.returns-clause-first
returns-clause-first c = links-first

pub returns-clause-always : goal.returns-clause-always
returns-clause-always c = links-stay

pub returns-clause-watched : goal.returns-clause-watched
returns-clause-watched c = l7-watches
