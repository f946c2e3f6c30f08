-- The digits so far are after what was there.
use Rattle.std.proofs.Common.{◌≡◌, ◌++◌, map, take}
use Rattle.console.specs.Texts.{digit_octet}
use Rattle.console.proofs.titles.push_digits.Given as goal

abbrev pub invariant-loop-digit : goal.invariant-loop-digit
invariant-loop-digit l = l.line.bytes ≡ l.fn.line.bytes ++ map digit_octet (take l.digit-index l.digits)
