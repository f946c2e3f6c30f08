use Rattle.exchange_rules.proofs.ReroutedFlows.{are-rerouted, are-taken}
use Rattle.exchange_rules.proofs.laws.peers.routes_change_as_their_points_say.Goals as goal

pub returns-clause-taken : goal.returns-clause-taken
returns-clause-taken c = are-taken

pub returns-clause-flows : goal.returns-clause-flows
returns-clause-flows c = are-rerouted
