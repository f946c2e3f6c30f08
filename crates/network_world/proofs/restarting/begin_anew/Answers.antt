-- One more began anew.
use Rattle.std.proofs.Common.{arith}
use Rattle.std.proofs.lemmas.Grind.{common_steps}
use Rattle.std.proofs.lemmas.List.Edits.{map_over_more}
use Rattle.network_world.specs.KeptAnew.{node_begins_anew}
use Rattle.network_world.proofs.restarting.begin_anew.Goals as goal

pub loop-node-preserved : goal.loop-node-preserved
loop-node-preserved c = grind (arith, common_steps, map_over_more node_begins_anew)
