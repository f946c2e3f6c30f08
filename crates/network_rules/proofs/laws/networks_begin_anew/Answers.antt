use Rattle.network_rules.proofs.Accounted.{accounts-anew, quiet-first}
use Rattle.network_rules.proofs.ToPoint.{ends-meet-anew}
use Rattle.network_rules.proofs.laws.networks_begin_anew.Goals as goal

pub returns-clause-all : goal.returns-clause-all
returns-clause-all c = accounts-anew

pub returns-clause-destinations : goal.returns-clause-destinations
returns-clause-destinations c = ends-meet-anew

pub returns-clause-first : goal.returns-clause-first
returns-clause-first c = quiet-first
