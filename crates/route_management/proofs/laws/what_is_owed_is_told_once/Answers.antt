use Rattle.route_management.proofs.Owing.{is_kept, once, other_points, other_destinations}
use Rattle.route_management.proofs.laws.what_is_owed_is_told_once.Goals as goal

pub returns-clause-kept : goal.returns-clause-kept
returns-clause-kept c = is_kept

pub returns-clause-once : goal.returns-clause-once
returns-clause-once c = once

pub returns-clause-points : goal.returns-clause-points
returns-clause-points c = other_points

pub returns-clause-destinations : goal.returns-clause-destinations
returns-clause-destinations c = other_destinations
