use Rattle.network_rules.proofs.PassedOn.{all-moves-pass, all-pass, begin-empty}
use Rattle.network_rules.proofs.laws.nodes_pass_on_in_order.Goals as goal

pub returns-clause-each : goal.returns-clause-each
returns-clause-each c = all-pass

pub returns-clause-outside : goal.returns-clause-outside
returns-clause-outside c = all-moves-pass

pub returns-clause-first : goal.returns-clause-first
returns-clause-first c = begin-empty
