use Rattle.settings_file.proofs.Basics.{◌≡◌, drop, map, view}
use Rattle.settings_file.specs.AllFaults.{each_check, entry_checks_of}
use Rattle.settings_file.specs.Noted.{all_noted}
use Rattle.settings_file.proofs.faults.arrays.note_each.Given as goal

abbrev pub invariant-loop-i : goal.invariant-loop-i
invariant-loop-i l = all_noted l.faults.items (each_check (entry_checks_of l.array) l.i (map view (drop l.i l.values))) ≡ all_noted l.fn.faults.items (each_check (entry_checks_of l.array) 0 (map view l.values))
