use Rattle.pair_moves.proofs.Concluded.{codes_are_outstanding-always, none_given_up-always}
use Rattle.pair_moves.proofs.laws.codes_are_outstanding_until_they_are_confirmed.Goals as goal

pub returns-clause-outstanding : goal.returns-clause-outstanding
returns-clause-outstanding c = codes_are_outstanding-always

pub returns-clause-given_up : goal.returns-clause-given_up
returns-clause-given_up c = none_given_up-always
