use Rattle.std.proofs.Common.{sym, ◌∙◌, arith}
use Rattle.sctp_receiving.proofs.Blocks.{run_goes_on, run_stops, run_is_full, block_is}
use Rattle.sctp_receiving.proofs.receiver.Receiver.block_from.Goals as goal
use Rattle.sctp_receiving.proofs.receiver.Receiver.block_from.Goals.{then-loop-end-test+else-is_held_ahead, else-loop-end-test}

pub loop-end-preserved : goal.loop-end-preserved
loop-end-preserved c = record {
  within = omega (arith, c.loop-end-test.true);
  run = run_goes_on c.args.self.now c.loop-end.end c.loop-end-test.true (sym c.is_held_ahead.ensures ∙ c.if-is_held_ahead.true) ∙ c.loop-end.invariant.run;
}

pub returns : goal.returns
returns c =
    elim c.loop-end-test.branch [
      | then-loop-end-test+else-is_held_ahead w ↦
          block_is c.args.self.now c.args.start c.loop-end.end c.loop-end.invariant.run
          (run_stops c.args.self.now c.loop-end.end w.loop-end-test.true (sym w.is_held_ahead.ensures ∙ w.if-is_held_ahead.false))
      | else-loop-end-test w ↦
          block_is c.args.self.now c.args.start c.loop-end.end c.loop-end.invariant.run
          (run_is_full c.args.self.now c.loop-end.end c.loop-end.invariant.within w.loop-end-test.false)
    ]
