use Rattle.route_management.proofs.Owing.{is_reset, others_after_reset}
use Rattle.route_management.proofs.laws.reset_is_of_one_point.Goals as goal

pub returns-clause-kept : goal.returns-clause-kept
returns-clause-kept c = is_reset

pub returns-clause-others : goal.returns-clause-others
returns-clause-others c = others_after_reset
