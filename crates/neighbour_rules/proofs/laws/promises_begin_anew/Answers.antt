use Rattle.neighbour_rules.proofs.Anew.{begins-anew, begin-quietly}
use Rattle.neighbour_rules.proofs.laws.promises_begin_anew.Goals as goal

pub returns-clause-anew : goal.returns-clause-anew
returns-clause-anew c = begins-anew

pub returns-clause-first : goal.returns-clause-first
returns-clause-first c = begin-quietly
