use Rattle.settings_file.proofs.Basics.{◌≡◌, drop, map, string_bytes, view, each, name_in}
use Rattle.settings_file.proofs.Each.{after}
use Rattle.settings_file.proofs.node_keys.each_name.Given as goal

abbrev pub invariant-loop-i : goal.invariant-loop-i
invariant-loop-i l = after (map (λ name. string_bytes name) l.names.items) (each (λ _. name_in l.has_longer l.key) l.i (map view (drop l.i l.values))) ≡ each (λ _. name_in l.has_longer l.key) 0 (map view l.values)
