use Rattle.exchange_rules.proofs.Subsystems.{is-heard, same-as-before, ssa-one, ssp-one}
use Rattle.exchange_rules.proofs.Countdowns.{changes-one}
use Rattle.exchange_rules.proofs.HeardNews.{say-what-came}
use Rattle.exchange_rules.proofs.laws.subsystems.subsystems_are_as_their_points_say.Goals as goal

pub returns-clause-heard : goal.returns-clause-heard
returns-clause-heard c = is-heard

pub returns-clause-prohibited : goal.returns-clause-prohibited
returns-clause-prohibited c = ssp-one

pub returns-clause-allowed : goal.returns-clause-allowed
returns-clause-allowed c = ssa-one

pub returns-clause-rows : goal.returns-clause-rows
returns-clause-rows c = same-as-before

pub returns-clause-known : goal.returns-clause-known
returns-clause-known c = changes-one

pub returns-clause-says : goal.returns-clause-says
returns-clause-says c = say-what-came
