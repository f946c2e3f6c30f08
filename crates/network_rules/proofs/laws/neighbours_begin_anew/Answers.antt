use Rattle.network_rules.proofs.Anew.{neighbours-anew, never-spoken}
use Rattle.network_rules.proofs.laws.neighbours_begin_anew.Goals as goal

pub returns-clause-promises : goal.returns-clause-promises
returns-clause-promises c = neighbours-anew

pub returns-clause-silent : goal.returns-clause-silent
returns-clause-silent c = never-spoken
