use Rattle.route_management.proofs.Listing.{all_owed, nothing_owed}
use Rattle.route_management.proofs.laws.all_that_is_owed_is_listed.Goals as goal

pub returns-clause-owed : goal.returns-clause-owed
returns-clause-owed c = all_owed

pub returns-clause-all : goal.returns-clause-all
returns-clause-all c = nothing_owed
