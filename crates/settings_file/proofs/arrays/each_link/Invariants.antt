use Rattle.settings_file.proofs.Basics.{◌≡◌, drop, map, view, each, link_written, link_entry_in}
use Rattle.settings_file.proofs.Each.{after}
use Rattle.settings_file.proofs.arrays.each_link.Given as goal

abbrev pub invariant-loop-i : goal.invariant-loop-i
invariant-loop-i l = after (map link_written l.links.items) (each (link_entry_in l.has_share l.has_longer) l.i (map view (drop l.i l.values))) ≡ each (link_entry_in l.has_share l.has_longer) 0 (map view l.values)
