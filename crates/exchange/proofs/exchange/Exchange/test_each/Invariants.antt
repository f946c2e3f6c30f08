-- The tests that are left lead where all lead from the first.
use Rattle.exchange.proofs.SubsystemTests.{LeadsOn}
use Rattle.exchange.proofs.exchange.Exchange.test_each.Given as goal

abbrev pub invariant-loop-subsystem : goal.invariant-loop-subsystem
invariant-loop-subsystem l = LeadsOn l.fn.self.settings l.due l.subsystem-index l.fn.self l.self
