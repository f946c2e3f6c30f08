use Rattle.node_law.proofs.Order.{all-in-order, all-share}
use Rattle.node_law.proofs.laws.flows_come_in_order_over_a_hop.Goals as goal

pub returns-clause-shares : goal.returns-clause-shares
returns-clause-shares c = all-share

pub returns-clause-order : goal.returns-clause-order
returns-clause-order c = all-in-order
