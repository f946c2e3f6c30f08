use Rattle.exchange_rules.proofs.LastingHolds.{holds-stay, every-hold}
use Rattle.exchange_rules.proofs.laws.every_hold_has_its_timer_or_its_word.Goals as goal

pub returns-clause-stays : goal.returns-clause-stays
returns-clause-stays c = holds-stay

pub returns-clause-always : goal.returns-clause-always
returns-clause-always c = every-hold
