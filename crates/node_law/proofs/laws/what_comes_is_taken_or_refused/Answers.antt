use Rattle.node_law.proofs.PassedOn.{all-taken, all-taken-anew}
use Rattle.node_law.proofs.laws.what_comes_is_taken_or_refused.Goals as goal

pub returns-clause-always : goal.returns-clause-always
returns-clause-always c = all-taken

pub returns-clause-anew : goal.returns-clause-anew
returns-clause-anew c = all-taken-anew
