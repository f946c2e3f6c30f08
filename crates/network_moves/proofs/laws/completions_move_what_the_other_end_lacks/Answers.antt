use Rattle.network_moves.proofs.Concluded.{numbers_name-always, orders_move-always, answers_move-always, orders_are_reasonable-always, answers_are_reasonable-always}
use Rattle.network_moves.proofs.laws.completions_move_what_the_other_end_lacks.Goals as goal

pub returns-clause-named : goal.returns-clause-named
returns-clause-named c = numbers_name-always

pub returns-clause-orders : goal.returns-clause-orders
returns-clause-orders c = orders_move-always

pub returns-clause-answers : goal.returns-clause-answers
returns-clause-answers c = answers_move-always

pub returns-clause-reasonable_orders : goal.returns-clause-reasonable_orders
returns-clause-reasonable_orders c = orders_are_reasonable-always

pub returns-clause-reasonable_answers : goal.returns-clause-reasonable_answers
returns-clause-reasonable_answers c = answers_are_reasonable-always
