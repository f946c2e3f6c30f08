use Rattle.timers.proofs.Basics.{◌<◌, length, sym, arith, get_or_default, never}
use Rattle.timers.proofs.Beneath.{row-within, none-first}
use Rattle.timers.proofs.tree.+first_below.Goals as goal

pub returns-then-nodes-node : goal.returns-then-nodes-node
returns-then-nodes-node t c =
    let within : c.args.node < length c.args.nodes.now = row-within c.args.levels c.args.node (length c.args.nodes.now) c.requires.size in
    sym (none-first c.args.clock c.args.nodes.now c.args.levels c.args.node c.requires.bounded (omega (arith, c.if-nodes-node.true, get_or_default c.args.nodes.now c.args.node 0 never within)))
