use Rattle.pair_moves.proofs.Concluded.{numbers_name-always, what_waits-always, orders_move-always, answers_move-always}
use Rattle.pair_moves.proofs.laws.completions_move_what_the_peer_lacks.Goals as goal

pub returns-clause-named : goal.returns-clause-named
returns-clause-named c = numbers_name-always

pub returns-clause-waiting : goal.returns-clause-waiting
returns-clause-waiting c = what_waits-always

pub returns-clause-orders : goal.returns-clause-orders
returns-clause-orders c = orders_move-always

pub returns-clause-answers : goal.returns-clause-answers
returns-clause-answers c = answers_move-always
