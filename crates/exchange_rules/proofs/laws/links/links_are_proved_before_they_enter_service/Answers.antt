use Rattle.exchange_rules.proofs.ProvedEvents.{proved-first}
use Rattle.exchange_rules.proofs.laws.links.links_are_proved_before_they_enter_service.Goals as goal

pub returns : goal.returns
returns c = proved-first
