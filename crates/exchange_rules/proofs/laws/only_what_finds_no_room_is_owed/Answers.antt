use Rattle.exchange_rules.proofs.Sound.{first-told, done-told, take-told}
use Rattle.exchange_rules.proofs.laws.only_what_finds_no_room_is_owed.Goals as goal

pub returns-clause-first : goal.returns-clause-first
returns-clause-first c = first-told

pub returns-clause-event : goal.returns-clause-event
returns-clause-event c = done-told

pub returns-clause-take : goal.returns-clause-take
returns-clause-take c = λ a link e. take-told a.settings link a.node e
