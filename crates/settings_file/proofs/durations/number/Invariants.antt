-- The digits so far with the remaining ones are all of them.
use Rattle.std.proofs.Common.{◌≡◌, ◌≤◌, drop}
use Rattle.settings_file.specs.Durations.{with_digits}
use Rattle.settings_file.proofs.durations.number.Given as goal

abbrev pub invariant-loop-digit : goal.invariant-loop-digit
invariant-loop-digit l = record {
  rest : with_digits l.number (drop l.digit-index l.digits) ≡ with_digits 0 l.digits;
  below : l.number ≤ 9999999;
}
