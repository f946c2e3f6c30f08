use Rattle.routes.proofs.Basics.{arith, map, common_steps, map_over_more, Allowed, with_status_over}
use Rattle.routes.proofs.known.allow_all.Goals as goal

pub loop-routes-preserved : goal.loop-routes-preserved
loop-routes-preserved c = grind (arith, common_steps, map_over_more (map (with_status_over c.args.set Allowed)))
