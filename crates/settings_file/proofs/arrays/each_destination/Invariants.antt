use Rattle.settings_file.proofs.Basics.{◌≡◌, drop, map, view, each, destination_written, destination_in}
use Rattle.settings_file.proofs.Each.{after}
use Rattle.settings_file.proofs.arrays.each_destination.Given as goal

abbrev pub invariant-loop-i : goal.invariant-loop-i
invariant-loop-i l = after (map destination_written l.destinations.items) (each (destination_in l.has_joined l.has_additions) l.i (map view (drop l.i l.values))) ≡ each (destination_in l.has_joined l.has_additions) 0 (map view l.values)
