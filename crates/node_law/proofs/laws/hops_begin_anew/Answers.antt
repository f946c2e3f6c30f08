use Rattle.node_law.proofs.AnewHops.{all-come, all-whole, nothing-left}
use Rattle.node_law.proofs.AnewOrder.{all-in-order}
use Rattle.node_law.proofs.laws.hops_begin_anew.Goals as goal

pub returns-clause-once : goal.returns-clause-once
returns-clause-once c = all-come

pub returns-clause-flags : goal.returns-clause-flags
returns-clause-flags c = all-whole

pub returns-clause-order : goal.returns-clause-order
returns-clause-order c = all-in-order

pub returns-clause-quiet : goal.returns-clause-quiet
returns-clause-quiet c = nothing-left
