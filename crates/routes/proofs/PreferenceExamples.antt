-- The order in which a flow tries two links, by computation.
use Rattle.std.proofs.Common.{refl}
use Rattle.routes.specs.PreferenceExamples as examples

pub tries_each_once : examples.tries_each_once
tries_each_once = refl
