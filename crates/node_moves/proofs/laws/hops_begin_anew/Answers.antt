use Rattle.node_moves.proofs.Anew.{hops-anew, nothing-lost, begin-quietly}
use Rattle.node_moves.proofs.laws.hops_begin_anew.Goals as goal

pub returns-clause-once : goal.returns-clause-once
returns-clause-once c = hops-anew

pub returns-clause-flags : goal.returns-clause-flags
returns-clause-flags c = nothing-lost

pub returns-clause-first : goal.returns-clause-first
returns-clause-first c = begin-quietly
