use Rattle.settings_file.proofs.Basics.{◌≡◌, ◌++◌, drop, map, view, destination_written}
use Rattle.settings_file.specs.Mended.{each_mended, destination_mended}
use Rattle.settings_file.proofs.faults.mended.entries.each_destination.Given as goal

abbrev pub invariant-loop-i : goal.invariant-loop-i
invariant-loop-i l = map destination_written l.destinations.items ++ each_mended destination_mended l.i (map view (drop l.i l.values)) ≡ each_mended destination_mended 0 (map view l.values)
