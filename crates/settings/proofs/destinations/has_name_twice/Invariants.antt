use Rattle.settings.proofs.Basics.{◌≡◌, string_eq, drop, has_repeat}
use Rattle.settings.proofs.destinations.has_name_twice.Given as goal

abbrev pub invariant-loop-i : goal.invariant-loop-i
invariant-loop-i l = has_repeat string_eq (drop l.i l.names) ≡ has_repeat string_eq l.names
