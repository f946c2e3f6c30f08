-- No two of no rows are of one place.
use Rattle.std.specs.List.{IsDistinct}
use Rattle.rows.proofs.codecs.print.Goals as goal

pub of_rows-requires-clause-differ : goal.of_rows-requires-clause-differ
unfolding IsDistinct
of_rows-requires-clause-differ g c = tt
