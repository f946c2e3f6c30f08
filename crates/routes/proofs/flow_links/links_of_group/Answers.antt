use Rattle.std.proofs.Common.{arith}
use Rattle.routes.proofs.Compiling.{filled}
use Rattle.routes.proofs.flow_links.links_of_group.Goals as goal

pub returns : goal.returns
returns c = filled c.args.in_service.now c.args.sets.now c.args.group.now c.loop-selection.links c.loop-selection.invariant.room
    (λ s l. c.loop-selection.invariant.links s (omega (arith, l, c.loop-selection-test.false)))
