use Rattle.settings_file.proofs.Basics.{◌≡◌, drop, map, view, Spelling}
use Rattle.settings_file.specs.Paths.{addresses_from, no_addresses}
use Rattle.settings_file.proofs.serve.paths.each_address.Given as goal

abbrev pub invariant-loop-i : goal.invariant-loop-i
invariant-loop-i l = (s : Spelling) → addresses_from s l.key l.places l.i (map view (drop l.i l.values)) ≡ addresses_from s l.key no_addresses 0 (map view l.values)
