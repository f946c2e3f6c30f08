use Rattle.network_rules.proofs.Transit.{through}
use Rattle.network_rules.proofs.laws.messages_pass_through.Goals as goal

pub returns : goal.returns
returns c = through
