use Rattle.settings_file.proofs.Basics.{◌≡◌, drop, map, view, each, set_written, set_in}
use Rattle.settings_file.proofs.Each.{after}
use Rattle.settings_file.proofs.arrays.each_set.Given as goal

abbrev pub invariant-loop-i : goal.invariant-loop-i
invariant-loop-i l = after (map set_written l.sets.items) (each (set_in l.has_additions) l.i (map view (drop l.i l.values))) ≡ each (set_in l.has_additions) 0 (map view l.values)
