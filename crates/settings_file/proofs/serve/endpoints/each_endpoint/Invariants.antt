use Rattle.settings_file.proofs.Basics.{◌≡◌, [], drop, map, view, Spelling, endpoints_behind}
use Rattle.std.specs.Prelude.{true}
use Rattle.settings_file.specs.Endpoints.{have_source}
use Rattle.settings_file.proofs.serve.endpoints.each_endpoint.Given as goal

abbrev pub invariant-loop-i : goal.invariant-loop-i
invariant-loop-i l =
    ((s : Spelling) → endpoints_behind s l.own l.is_fourth l.endpoints.items (map view (drop l.i l.values)) ≡ endpoints_behind s l.own l.is_fourth [] (map view l.values))
    × (have_source l.own.udp l.endpoints.items ≡ true)
