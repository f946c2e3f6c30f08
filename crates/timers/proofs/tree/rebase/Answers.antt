use Rattle.timers.proofs.Basics.{arith, rebased}
use Rattle.std.proofs.lemmas.Grind.{common_steps}
use Rattle.std.proofs.lemmas.List.Edits.{map_over_more}
use Rattle.timers.proofs.tree.rebase.Goals as goal

pub loop-moment-preserved : goal.loop-moment-preserved
loop-moment-preserved c = grind (arith, common_steps, map_over_more (rebased c.args.clock))
