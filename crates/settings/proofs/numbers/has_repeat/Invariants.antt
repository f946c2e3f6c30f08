use Rattle.settings.proofs.Basics.{◌≡◌, nat_eq, drop, has_repeat}
use Rattle.settings.proofs.numbers.has_repeat.Given as goal

abbrev pub invariant-loop-i : goal.invariant-loop-i
invariant-loop-i l = has_repeat nat_eq (drop l.i l.numbers) ≡ has_repeat nat_eq l.numbers
