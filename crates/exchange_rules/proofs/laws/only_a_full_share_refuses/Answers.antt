use Rattle.exchange_rules.proofs.Shares.{full-refuse}
use Rattle.exchange_rules.proofs.WithoutShares.{others-plain}
use Rattle.exchange_rules.proofs.laws.only_a_full_share_refuses.Goals as goal

pub returns-clause-refused : goal.returns-clause-refused
returns-clause-refused c = full-refuse

pub returns-clause-others : goal.returns-clause-others
returns-clause-others c = others-plain
