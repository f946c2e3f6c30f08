use Rattle.timers.proofs.Basics.{◌<◌, length, sym, arith, pow_below, get_or_default, never}
use Rattle.timers.proofs.Beneath.{row-first, row-second, row-within, two-halves, bounded-first, bounded-second, none-below}
use Rattle.timers.proofs.tree.+count_below.Goals as goal

pub count_below-requires : goal.count_below-requires
count_below-requires t c =
    let some : 0 < c.args.levels = omega arith in
    (omega arith, (row-first c.args.levels c.args.node (length c.args.nodes.now) some c.requires.size, (omega arith, bounded-first c.args.levels c.args.node c.args.nodes.now some c.requires.bounded)))

pub count_below-requires-else-levels-eq0 : goal.count_below-requires-else-levels-eq0
count_below-requires-else-levels-eq0 t c =
    let some : 0 < c.args.levels = omega arith in
    (omega arith, (row-second c.args.levels c.args.node (length c.args.nodes.now) some c.requires.size, (omega arith, bounded-second c.args.levels c.args.node c.args.nodes.now some c.requires.bounded)))

pub overflow_add-result : goal.overflow_add-result
overflow_add-result t c =
    omega (arith, c.count_below.ensures.fits, c.count_below-else-levels-eq0.ensures.fits, two-halves c.args.levels (omega arith), pow_below c.args.levels 49 (omega (arith, c.requires.few)))

pub returns-then-nodes-node-clause-count : goal.returns-then-nodes-node-clause-count
returns-then-nodes-node-clause-count t c =
    let within : c.args.node < length c.args.nodes.now = row-within c.args.levels c.args.node (length c.args.nodes.now) c.requires.size in
    sym (none-below c.args.clock c.args.nodes.now c.args.levels c.args.node c.requires.bounded (omega (arith, c.if-nodes-node.true, get_or_default c.args.nodes.now c.args.node 0 never within)))

pub returns-else-levels-eq0-clause-fits : goal.returns-else-levels-eq0-clause-fits
returns-else-levels-eq0-clause-fits t c = omega (arith, c.count_below.ensures.fits, c.count_below-else-levels-eq0.ensures.fits, two-halves c.args.levels (omega arith))
