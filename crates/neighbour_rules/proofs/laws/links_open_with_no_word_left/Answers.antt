use Rattle.neighbour_rules.proofs.FourLaws.{none-left}
use Rattle.neighbour_rules.proofs.laws.links_open_with_no_word_left.Goals as goal

pub returns : goal.returns
returns c = none-left
