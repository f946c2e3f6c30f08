use Rattle.std.proofs.Common.{refl, arith}
use Rattle.std.specs.Int.{w32, to_be_bytes}
use Rattle.std.specs.List.{flat_map}
use Rattle.sctp_codec.proofs.Joined.{one_written}
use Rattle.sctp_codec.proofs.writing.write_numbers.Goals as goal

pub each_number-preserved : goal.each_number-preserved
each_number-preserved c = record {
  count = omega (arith, c.write_number-end.ensures.count, c.each_number.invariant.count);
  text =
      one_written (to_be_bytes w32) (flat_map (to_be_bytes w32)) (λ x xs. refl) _ _ _ c.args.numbers.now c.each_number.number-index _ 0 (omega (arith, c.each_number-test.true)) refl c.write_number-end.ensures.text
      c.each_number.invariant.text;
}
