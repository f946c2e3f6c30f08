use Rattle.network_rules.proofs.Accounted.{accounts}
use Rattle.network_rules.proofs.laws.each_message_is_accounted_for.Goals as goal

pub returns : goal.returns
returns c = accounts
