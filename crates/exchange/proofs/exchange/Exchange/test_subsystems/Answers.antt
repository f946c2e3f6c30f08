use Rattle.exchange.proofs.SubsystemTests.{stands-tests}
use Rattle.exchange.proofs.exchange.Exchange.test_subsystems.Goals as goal

pub returns-clause-state : goal.returns-clause-state
returns-clause-state c = λ a s. rw c.test_due.ensures (stands-tests c.args.self.now a s)
