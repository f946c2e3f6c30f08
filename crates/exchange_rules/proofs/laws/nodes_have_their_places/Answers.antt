use Rattle.exchange_rules.proofs.LastingPlaces.{places-first, places-stay}
use Rattle.exchange_rules.proofs.laws.nodes_have_their_places.Goals as goal

pub returns-clause-first : goal.returns-clause-first
returns-clause-first c = places-first

pub returns-clause-always : goal.returns-clause-always
returns-clause-always c = places-stay
