use Rattle.exchange_rules.proofs.FailedLinks.{links-fail}
use Rattle.exchange_rules.proofs.laws.links.links_that_fail_are_named.Goals as goal

pub returns : goal.returns
returns c = links-fail
