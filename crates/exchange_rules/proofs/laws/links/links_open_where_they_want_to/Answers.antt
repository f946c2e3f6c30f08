use Rattle.exchange_rules.proofs.Answers.{wanted-open}
use Rattle.exchange_rules.proofs.laws.links.links_open_where_they_want_to.Goals as goal

pub returns : goal.returns
returns c = wanted-open
