use Rattle.neighbour_rules.proofs.Promised.{each-once}
use Rattle.neighbour_rules.proofs.laws.each_message_comes_once.Goals as goal

pub returns : goal.returns
returns c = each-once
