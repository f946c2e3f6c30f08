use Rattle.exchange_rules.proofs.LeftAll.{others-left, takes-leave}
use Rattle.exchange_rules.proofs.laws.links.other_links_are_left.Goals as goal

pub returns-clause-event : goal.returns-clause-event
returns-clause-event c = others-left

pub returns-clause-take : goal.returns-clause-take
returns-clause-take c = takes-leave
