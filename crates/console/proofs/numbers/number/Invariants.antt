-- The digits so far with the remaining ones are all of them.
use Rattle.std.proofs.Common.{◌≡◌, ◌≤◌, drop}
use Rattle.console.specs.Numbers.{with_digits}
use Rattle.console.proofs.numbers.number.Given as goal

abbrev pub invariant-loop-digit : goal.invariant-loop-digit
invariant-loop-digit l = record {
  rest : with_digits l.most l.number (drop l.digit-index l.digits) ≡ with_digits l.most 0 l.digits;
  below : l.number ≤ l.most;
}
