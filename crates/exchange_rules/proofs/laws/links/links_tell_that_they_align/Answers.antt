use Rattle.exchange_rules.proofs.OpeningLaws.{told-open}
use Rattle.exchange_rules.proofs.laws.links.links_tell_that_they_align.Goals as goal

pub returns : goal.returns
returns c = told-open
