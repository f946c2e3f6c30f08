use Rattle.pair_rules.proofs.ToldLinks.{links-told}
use Rattle.pair_rules.proofs.laws.links_are_told_by_their_codes.Goals as goal

pub returns : goal.returns
returns c = links-told
