use Rattle.exchange_rules.proofs.EndedHolds.{holds-end, takes-leave}
use Rattle.exchange_rules.proofs.Unasked.{unasked}
use Rattle.exchange_rules.proofs.laws.holds_end_by_word_or_timer.Goals as goal

pub returns-clause-event : goal.returns-clause-event
returns-clause-event c = holds-end

pub returns-clause-unasked : goal.returns-clause-unasked
returns-clause-unasked c = unasked

pub returns-clause-take : goal.returns-clause-take
returns-clause-take c = takes-leave
