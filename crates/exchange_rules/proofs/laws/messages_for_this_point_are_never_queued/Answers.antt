use Rattle.exchange_rules.proofs.LastingMessages.{first-onward, messages-stay}
use Rattle.exchange_rules.proofs.laws.messages_for_this_point_are_never_queued.Goals as goal

pub returns-clause-first : goal.returns-clause-first
returns-clause-first c = first-onward

pub returns-clause-always : goal.returns-clause-always
returns-clause-always c = messages-stay
