use Rattle.exchange_rules.proofs.SubsystemTests.{in-turn, reached-stay, reads-as-such}
use Rattle.exchange_rules.proofs.Countdowns.{tested-as-due}
use Rattle.exchange_rules.proofs.laws.subsystems.prohibited_subsystems_are_tested.Goals as goal

pub returns-clause-stay : goal.returns-clause-stay
returns-clause-stay c = reached-stay

pub returns-clause-turns : goal.returns-clause-turns
returns-clause-turns c = in-turn

pub returns-clause-text : goal.returns-clause-text
returns-clause-text c = reads-as-such

pub returns-clause-due : goal.returns-clause-due
returns-clause-due c = tested-as-due
