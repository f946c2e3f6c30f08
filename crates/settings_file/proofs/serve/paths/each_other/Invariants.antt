use Rattle.settings_file.proofs.Basics.{◌≡◌, drop, map, view, Spelling}
use Rattle.settings_file.specs.Paths.{others_from, no_others}
use Rattle.settings_file.proofs.serve.paths.each_other.Given as goal

abbrev pub invariant-loop-n : goal.invariant-loop-n
invariant-loop-n l = (s : Spelling) → others_from s l.udp l.i l.first l.places l.n (map view (drop l.n l.values)) ≡ others_from s l.udp l.i l.first no_others 0 (map view l.values)
