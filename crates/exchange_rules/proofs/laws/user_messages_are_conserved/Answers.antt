use Rattle.exchange_rules.proofs.Conserved.{conserved, take-leaves}
use Rattle.exchange_rules.proofs.AddingUp.{all-adds-up}
use Rattle.exchange_rules.proofs.Fates.{carried-fate, submitted-fate}
use Rattle.exchange_rules.proofs.laws.user_messages_are_conserved.Goals as goal

pub returns-clause-carried : goal.returns-clause-carried
returns-clause-carried c = carried-fate

pub returns-clause-submitted : goal.returns-clause-submitted
returns-clause-submitted c = submitted-fate

pub returns-clause-event : goal.returns-clause-event
returns-clause-event c = conserved

pub returns-clause-take : goal.returns-clause-take
returns-clause-take c = take-leaves

pub returns-clause-always : goal.returns-clause-always
returns-clause-always c = all-adds-up
