use Rattle.network_rules.proofs.Links.{carry}
use Rattle.network_rules.proofs.laws.frames_carry_what_was_not_received.Goals as goal

pub returns : goal.returns
returns c = carry
