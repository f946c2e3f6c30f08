use Rattle.std.proofs.Common.{Bool, ap, ◌∙◌, ◌+◌, ◌-◌, ◌++◌, take, arith}
use Rattle.sctp_receiving.specs.Sack.{blocks_from}
use Rattle.sctp_receiving.proofs.Blocks.{one_more, walked, few_taken}
use Rattle.sctp_receiving.proofs.receiver.Receiver.blocks_held.Goals as goal

pub loop-ahead-preserved : goal.loop-ahead-preserved
loop-ahead-preserved c = record {
  found =
      ap (λ (b : Bool). take 100 (c.add_block.new.blocks.items ++ blocks_from c.args.self.now b (c.loop-ahead.ahead + 1) (257 - (c.loop-ahead.ahead + 1))))
      c.is_held_ahead-is_before_held.ensures
      ∙ one_more c.args.self.now c.loop-ahead.is_before_held c.loop-ahead.ahead c.loop-ahead.blocks.items c.add_block.new.blocks.items
      (omega (arith, c.loop-ahead-test.true)) c.add_block.ensures
      ∙ c.loop-ahead.invariant.found;
  few = few_taken c.add_block.new.blocks.items _ c.add_block.ensures;
}

pub returns : goal.returns
returns c =
    walked c.args.self.now c.loop-ahead.is_before_held c.loop-ahead.ahead c.loop-ahead.blocks.items c.loop-ahead-test.false
    c.loop-ahead.invariant.few c.loop-ahead.invariant.found
