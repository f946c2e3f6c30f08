use Rattle.settings_file.proofs.Basics.{◌≡◌, [], ◌++◌, drop, map, view, Spelling}
use Rattle.settings_file.specs.AllServeFaults.{links_faults}
use Rattle.settings_file.proofs.serve.faults.links.note_each.Given as goal

abbrev pub invariant-loop-i : goal.invariant-loop-i
invariant-loop-i l = (s : Spelling)
    → l.faults.items ++ links_faults s l.own l.before.items l.i (map view (drop l.i l.values)) ≡ l.fn.faults.items ++ links_faults s l.own [] 0 (map view l.values)
