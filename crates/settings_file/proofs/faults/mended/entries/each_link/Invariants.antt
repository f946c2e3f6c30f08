use Rattle.settings_file.proofs.Basics.{◌≡◌, ◌++◌, drop, map, view, link_written}
use Rattle.settings_file.specs.Mended.{each_mended, link_mended}
use Rattle.settings_file.proofs.faults.mended.entries.each_link.Given as goal

abbrev pub invariant-loop-i : goal.invariant-loop-i
invariant-loop-i l = map link_written l.links.items ++ each_mended link_mended l.i (map view (drop l.i l.values)) ≡ each_mended link_mended 0 (map view l.values)
