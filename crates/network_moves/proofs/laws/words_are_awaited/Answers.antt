use Rattle.network_moves.proofs.Concluded.{words_are_awaited-always, links_open-always, ends_follow-always}
use Rattle.network_moves.proofs.laws.words_are_awaited.Goals as goal

pub returns-clause-awaited : goal.returns-clause-awaited
returns-clause-awaited c = words_are_awaited-always

pub returns-clause-opening : goal.returns-clause-opening
returns-clause-opening c = links_open-always

pub returns-clause-following : goal.returns-clause-following
returns-clause-following c = ends_follow-always
