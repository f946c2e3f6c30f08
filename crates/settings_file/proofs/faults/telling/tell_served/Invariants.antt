use Rattle.settings_file.proofs.Basics.{◌≡◌, drop}
use Rattle.settings_file.specs.ToldFaults.{all_told}
use Rattle.settings_file.proofs.faults.telling.tell_served.Given as goal

abbrev pub invariant-loop-i : goal.invariant-loop-i
invariant-loop-i l = all_told l.told.items (drop l.i l.found) ≡ all_told l.fn.told.items l.found
