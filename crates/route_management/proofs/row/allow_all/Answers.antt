use Rattle.route_management.proofs.Basics.{arith, Allowed}
use Rattle.route_management.proofs.Rows.{alike_over_more}
use Rattle.route_management.proofs.row.allow_all.Goals as goal

pub loop-status-preserved : goal.loop-status-preserved
loop-status-preserved c =
    alike_over_more Allowed c.args.statuses.now c.loop-status.statuses c.loop-status.status-index (omega (arith, c.loop-status-test.true)) c.loop-status.invariant
