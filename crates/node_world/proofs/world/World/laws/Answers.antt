-- What worlds of gates promise.
use Rattle.network_datagrams.specs.NetworkPromises.{BooksAreOfTheTwo, EachFlowInOrder, EachMessageAccounted, EachMessageOnce, FlowsStayBetween, HopsKeepFlows, LastHopsKeepOrder, MessagesComeToEnd, NodesPassInOrder, NothingAwaitedInVain, NothingHeldInVain, PathsKeepFlows, PathsKeepOrder}
use Rattle.network_gates.proofs.Promised as gates
use Rattle.node_world.proofs.Promised.{alone-come, holds}
use Rattle.node_world.proofs.world.World.laws.Goals as goal

pub returns-clause-once : goal.returns-clause-once
returns-clause-once c = holds EachMessageOnce gates.once c.args.self.now

pub returns-clause-order : goal.returns-clause-order
returns-clause-order c = holds EachFlowInOrder gates.order c.args.self.now

pub returns-clause-alone : goal.returns-clause-alone
returns-clause-alone c = alone-come c.args.self.now

pub returns-clause-accounted : goal.returns-clause-accounted
returns-clause-accounted c = holds EachMessageAccounted gates.accounts c.args.self.now

pub returns-clause-to_each : goal.returns-clause-to_each
returns-clause-to_each c = holds MessagesComeToEnd gates.ends-meet c.args.self.now

pub returns-clause-awaited : goal.returns-clause-awaited
returns-clause-awaited c = holds NothingAwaitedInVain gates.awaited c.args.self.now

pub returns-clause-held : goal.returns-clause-held
returns-clause-held c = holds NothingHeldInVain gates.held c.args.self.now

pub returns-clause-booked : goal.returns-clause-booked
returns-clause-booked c = holds BooksAreOfTheTwo gates.books c.args.self.now

pub returns-clause-flows : goal.returns-clause-flows
returns-clause-flows c = holds FlowsStayBetween gates.flows c.args.self.now

pub returns-clause-nodes : goal.returns-clause-nodes
returns-clause-nodes c = holds NodesPassInOrder gates.nodes-pass c.args.self.now

pub returns-clause-paths : goal.returns-clause-paths
returns-clause-paths c = holds PathsKeepOrder gates.keep-order c.args.self.now

pub returns-clause-last : goal.returns-clause-last
returns-clause-last c = holds LastHopsKeepOrder gates.last-hops c.args.self.now

pub returns-clause-hops : goal.returns-clause-hops
returns-clause-hops c = holds HopsKeepFlows gates.keep-hops c.args.self.now

pub returns-clause-flow_paths : goal.returns-clause-flow_paths
returns-clause-flow_paths c = holds PathsKeepFlows gates.keep-flows c.args.self.now
