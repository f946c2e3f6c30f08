-- One message goes on, and one fewer is left.
use Rattle.exchange.proofs.Basics.{arith, ◌-◌, ap, ◌∙◌, Node, with_node, KeptQueues, held_lane, onward}
use Rattle.exchange.proofs.Draining.{loop_begins, loop_step, loop_done, release-drained}
use Rattle.exchange.proofs.exchange.Exchange.release_each.Goals as goal

pub loop-init : goal.loop-init
loop-init c = loop_begins onward c.args.self.now (c.count_held-end.result - 0) held_lane (omega (arith, c.count_held-end.ensures.kept_count))

pub loop-preserved : goal.loop-preserved
loop-preserved c = loop_step onward c.args.self.now c.loop.self c.release_first.new.self _ c.loop.counter held_lane _ c.loop-test.true c.release_first.ensures c.loop.invariant

pub returns : goal.returns
returns c =
    loop_done onward c.args.self.now c.loop.self _ held_lane _ (omega (arith, c.loop-test.false)) c.loop.invariant
    ∙ ap (λ (n : Node KeptQueues). with_node c.args.self.now n) (release-drained c.args.self.now.settings c.args.self.now.node)
