use Rattle.std.proofs.Common.{All, ◌<◌, ◌^◌, take}
use Rattle.settings.proofs.title_digits.are_digits.Given as goal

abbrev pub invariant-loop-digit : goal.invariant-loop-digit
invariant-loop-digit l = All (λ digit. digit < 2 ^ 4) (take l.digit-index l.digits)
