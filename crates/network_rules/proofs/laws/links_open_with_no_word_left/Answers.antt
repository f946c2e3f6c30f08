use Rattle.network_rules.proofs.Links.{none-stays}
use Rattle.network_rules.proofs.laws.links_open_with_no_word_left.Goals as goal

pub returns : goal.returns
returns c = none-stays
