-- How long the number of a point is.
use Rattle.std.proofs.Common.{rules, ℕ, ◌<◌, ◌≤◌, length}
use Rattle.std.specs.Fmt.{decimal}
use Rattle.std.proofs.lemmas.Fmt.{length-decimal-le}

-- a number of a point has at most five digits
pub short : (point : ℕ) → point < 16384 → length (decimal point) ≤ 5
short point fits = search (rules, length-decimal-le 5)
