use Rattle.route_management.proofs.Owing.{after_status, after_reset}
use Rattle.route_management.proofs.laws.statuses_change_their_own_destination.Goals as goal

pub returns-clause-destinations : goal.returns-clause-destinations
returns-clause-destinations c = after_status

pub returns-clause-reset : goal.returns-clause-reset
returns-clause-reset c = after_reset
