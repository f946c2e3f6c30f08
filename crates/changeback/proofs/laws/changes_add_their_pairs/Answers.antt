use Rattle.changeback.proofs.Held.{change_pairs, other_pairs_stay}
use Rattle.changeback.proofs.laws.changes_add_their_pairs.Goals as goal

pub returns-clause-own : goal.returns-clause-own
returns-clause-own c = change_pairs

pub returns-clause-others : goal.returns-clause-others
returns-clause-others c = other_pairs_stay
