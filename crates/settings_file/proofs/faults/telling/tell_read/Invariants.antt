use Rattle.settings_file.proofs.Basics.{◌≡◌, drop, map}
use Rattle.settings_file.specs.ToldFaults.{all_told}
use Rattle.settings_file.specs.declared.serve.fault.ServeFault.TheVariants.{Settings}
use Rattle.settings_file.proofs.faults.telling.tell_read.Given as goal

abbrev pub invariant-loop-i : goal.invariant-loop-i
invariant-loop-i l = all_told l.told.items (map Settings (drop l.i l.found)) ≡ all_told l.fn.told.items (map Settings l.found)
