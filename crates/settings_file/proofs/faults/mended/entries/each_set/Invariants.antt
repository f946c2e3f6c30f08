use Rattle.settings_file.proofs.Basics.{◌≡◌, ◌++◌, drop, map, view, set_written}
use Rattle.settings_file.specs.Mended.{each_mended, set_mended}
use Rattle.settings_file.proofs.faults.mended.entries.each_set.Given as goal

abbrev pub invariant-loop-i : goal.invariant-loop-i
invariant-loop-i l = map set_written l.sets.items ++ each_mended set_mended l.i (map view (drop l.i l.values)) ≡ each_mended set_mended 0 (map view l.values)
