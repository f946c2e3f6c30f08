use Rattle.settings_file.proofs.Basics.{◌≡◌, ◌++◌, drop, map, view, title_written}
use Rattle.settings_file.specs.Mended.{each_mended, title_mended}
use Rattle.settings_file.proofs.faults.mended.entries.each_title.Given as goal

abbrev pub invariant-loop-i : goal.invariant-loop-i
invariant-loop-i l = map title_written l.titles.items ++ each_mended title_mended l.i (map view (drop l.i l.values)) ≡ each_mended title_mended 0 (map view l.values)
