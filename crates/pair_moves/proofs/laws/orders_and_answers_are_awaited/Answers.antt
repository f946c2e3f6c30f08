use Rattle.pair_moves.proofs.Concluded.{orders_are_awaited-always, opens_with_nothing-always, follows_with_nothing-always}
use Rattle.pair_moves.proofs.laws.orders_and_answers_are_awaited.Goals as goal

pub returns-clause-awaited : goal.returns-clause-awaited
returns-clause-awaited c = orders_are_awaited-always

pub returns-clause-opening : goal.returns-clause-opening
returns-clause-opening c = opens_with_nothing-always

pub returns-clause-following : goal.returns-clause-following
returns-clause-following c = follows_with_nothing-always
