use Rattle.node_law.specs.Hops.{AreBothUnbroken, AreInTime, AreOfOneNetwork, ComesOver, ComesOverWhole, HaveNoFlag, HaveSet, KeepsEachFlow, OfEachHop}
use Rattle.node_law.proofs.Hops as hops
use Rattle.node_law.proofs.Order as order
use Rattle.network_world.proofs.NodeLaws.{always}
use Rattle.network_world.proofs.network.Network.hop_laws.Goals as goal

pub returns-clause-once : goal.returns-clause-once
returns-clause-once c = λ w s linked. always c.args.self.now w s linked (OfEachHop AreBothUnbroken ComesOver) hops.all-come

pub returns-clause-none_gone : goal.returns-clause-none_gone
returns-clause-none_gone c = λ w s linked. always c.args.self.now w s linked (OfEachHop HaveNoFlag ComesOverWhole) hops.all-whole

pub returns-clause-shared : goal.returns-clause-shared
returns-clause-shared c = λ w s linked. always c.args.self.now w s linked (OfEachHop AreOfOneNetwork HaveSet) order.all-share

pub returns-clause-order : goal.returns-clause-order
returns-clause-order c = λ w s linked. always c.args.self.now w s linked (OfEachHop AreInTime KeepsEachFlow) order.all-in-order
