-- the marks so far, and what the remaining blocks name
use Rattle.std.proofs.Common.{◌≡◌, ℕ, ◌||◌}
use Rattle.sctp_codec.specs.Values.{blocks_of}
use Rattle.sctp_sending.specs.Gaps.{marked, names_in}
use Rattle.sctp_sending.proofs.marks.marks_of.Given as goal

abbrev pub invariant-each_block : goal.invariant-each_block
invariant-each_block l = (ahead : ℕ) → (marked l.marks ahead || names_in (blocks_of l.block-iterator) l.many ahead) ≡ names_in (blocks_of l.fn.blocks) l.many ahead
