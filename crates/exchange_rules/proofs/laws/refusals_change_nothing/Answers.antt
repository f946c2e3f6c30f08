use Rattle.exchange_rules.proofs.Leaving.{refused_leaves}
use Rattle.exchange_rules.proofs.laws.refusals_change_nothing.Goals as goal

pub returns : goal.returns
returns c = refused_leaves
