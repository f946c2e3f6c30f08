use Rattle.settings_file.proofs.Basics.{◌≡◌, drop, map, view, each, title_written, title_in}
use Rattle.settings_file.proofs.Each.{after}
use Rattle.settings_file.proofs.arrays.each_title.Given as goal

abbrev pub invariant-loop-i : goal.invariant-loop-i
invariant-loop-i l = after (map title_written l.titles.items) (each (title_in l.has_extensions l.has_texts) l.i (map view (drop l.i l.values))) ≡ each (title_in l.has_extensions l.has_texts) 0 (map view l.values)
