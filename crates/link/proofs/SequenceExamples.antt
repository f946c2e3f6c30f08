-- The law of the search at one queue, by computation.
use Rattle.std.proofs.Common.{refl, arith}
use Rattle.link.specs.SequenceExamples as examples

pub is_queue : examples.is_queue
is_queue = record { confirmed = omega arith; sent = omega arith; window = omega arith; limit = omega arith }

pub zero_names_both : examples.zero_names_both
zero_names_both = record { from_confirmed = omega arith; to_sent = omega arith; number = refl }

pub search_finds_both : examples.search_finds_both
search_finds_both = refl
