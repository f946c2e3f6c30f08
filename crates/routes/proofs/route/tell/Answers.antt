use Rattle.routes.proofs.Basics.{arith, common_steps, map_over_more, with_status_over}
use Rattle.routes.proofs.route.tell.Goals as goal

pub loop-route-preserved : goal.loop-route-preserved
loop-route-preserved c = grind (arith, common_steps, map_over_more (with_status_over c.args.set c.args.status))
