use Rattle.sctp_rules.proofs.Openings.{other-tags}
use Rattle.sctp_rules.proofs.laws.packets_with_other_tags_are_dropped.Goals as goal

pub returns : goal.returns
returns c = other-tags
