-- The laws of a completion at one queue, by computation.
use Rattle.std.proofs.Common.{refl, arith}
use Rattle.changeover.specs.CompletionExamples as examples

pub is_queue : examples.is_queue
is_queue = record { confirmed = omega arith; sent = omega arith; window = omega arith; limit = omega arith }

pub each_once_by_number : examples.each_once_by_number
each_once_by_number = refl

pub each_once_without_number : examples.each_once_without_number
each_once_without_number = refl
