-- What a link sends, by computation.
use Rattle.std.proofs.Common.{◌≡◌, refl}
use Rattle.link.specs.PeriodExamples as examples

pub asks_as_before : examples.asks_as_before
asks_as_before = refl
