use Rattle.exchange_rules.proofs.AligningAll.{links-have}
use Rattle.exchange_rules.proofs.laws.links.links_have_the_timers_of_their_states.Goals as goal

pub returns : goal.returns
returns c = links-have
