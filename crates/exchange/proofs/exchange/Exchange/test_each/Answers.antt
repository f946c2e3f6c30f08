-- One test is submitted, and one fewer is left.
use Rattle.exchange.proofs.Basics.{refl}
use Rattle.exchange.proofs.SubsystemTests.{one-tested}
use Rattle.exchange.proofs.exchange.Exchange.test_each.Goals as goal

pub loop-subsystem-init : goal.loop-subsystem-init
loop-subsystem-init c = record { settings = refl; rest = refl }

pub loop-subsystem-preserved : goal.loop-subsystem-preserved
loop-subsystem-preserved c =
    one-tested c.args.self.now.settings c.args.due.now c.loop-subsystem.subsystem-index c.subsystem-item.result _ c.loop-subsystem.self c.test.new.self c.loop-subsystem-test.true c.subsystem-item.is
    c.loop-subsystem.invariant c.test.ensures
