-- One message goes out, and one fewer is left.
use Rattle.exchange.proofs.Basics.{arith, ◌-◌, lane_of, anew}
use Rattle.exchange.proofs.Draining.{loop_begins, loop_step, loop_done}
use Rattle.exchange.proofs.exchange.Exchange.send_all.Goals as goal

pub loop-init : goal.loop-init
loop-init c = loop_begins anew c.args.self.now (c.count_on-end.result - 0) (lane_of c.args.link) (omega (arith, c.count_on-end.ensures))

pub loop-preserved : goal.loop-preserved
loop-preserved c = loop_step anew c.args.self.now c.loop.self c.send_first.new.self _ c.loop.counter (lane_of c.args.link) _ c.loop-test.true c.send_first.ensures c.loop.invariant

pub returns : goal.returns
returns c = loop_done anew c.args.self.now c.loop.self _ (lane_of c.args.link) _ (omega (arith, c.loop-test.false)) c.loop.invariant
