use Rattle.node_law.specs.Anew.{AreInTimeSince, AreLosslessSince, AreUnbrokenSince, ComesOverSince, OfEachHopSince}
use Rattle.node_law.specs.Hops.{ComesOverWhole, KeepsEachFlow}
use Rattle.node_law.proofs.AnewHops as hops
use Rattle.node_law.proofs.AnewOrder as order
use Rattle.network_world.proofs.NodeLawsSince.{always-since}
use Rattle.network_world.proofs.network.Network.hop_laws_since.Goals as goal

pub returns-clause-once : goal.returns-clause-once
returns-clause-once c = λ from changes s linked. always-since c.args.self.now from changes s linked (OfEachHopSince AreUnbrokenSince ComesOverSince) hops.all-come

pub returns-clause-none_gone : goal.returns-clause-none_gone
returns-clause-none_gone c = λ from changes s linked.
    always-since c.args.self.now from changes s linked (OfEachHopSince AreLosslessSince (λ before w near far. ComesOverWhole w near far)) hops.all-whole

pub returns-clause-order : goal.returns-clause-order
returns-clause-order c = λ from changes s linked.
    always-since c.args.self.now from changes s linked (OfEachHopSince AreInTimeSince (λ before w near far. KeepsEachFlow w near far)) order.all-in-order

pub returns-clause-quiet : goal.returns-clause-quiet
returns-clause-quiet c = hops.nothing-left
