use Rattle.neighbour_rules.proofs.FourLaws.{frames-carry}
use Rattle.neighbour_rules.proofs.laws.frames_carry_what_was_not_received.Goals as goal

pub returns : goal.returns
returns c = frames-carry
