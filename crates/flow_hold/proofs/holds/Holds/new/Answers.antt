-- A table without marks stands for the empty set.
use Rattle.flow_hold.proofs.Basics.{ap, ◌∙◌, set_of}
use Rattle.flow_hold.proofs.Changed.{set-no_marks}
use Rattle.flow_hold.proofs.holds.Holds.new.Goals as goal

pub returns : goal.returns
returns c = ap set_of c.in_ok-new.ensures ∙ set-no_marks c.args.links c.args.sets c.args.destinations
