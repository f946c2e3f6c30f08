use Rattle.exchange_rules.proofs.Releasing.{others_left}
use Rattle.exchange_rules.proofs.laws.completion_leaves_other_links.Goals as goal

pub returns : goal.returns
returns c = others_left
