use Rattle.std.proofs.Common.{arith}
use Rattle.crc32c.proofs.Linear.{word_step}
use Rattle.crc32c.proofs.after_64_of_word.Goals as goal

pub returns : goal.returns
returns c =
    rw (c.after_64.ensures, c.after_56.ensures, c.after_48.ensures, c.after_40.ensures, c.to_le_bytes.ensures)
    (word_step 40 c.args.word _ _ _ _ (omega (arith, c.ranges.word.fits)) (omega arith) (omega arith) (omega arith))
