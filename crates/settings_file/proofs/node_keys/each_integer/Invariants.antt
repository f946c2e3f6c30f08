use Rattle.settings_file.proofs.Basics.{◌≡◌, drop, map, view, each, integer_in}
use Rattle.settings_file.proofs.Each.{after}
use Rattle.settings_file.specs.declared.fault.SettingsFault.TheVariants.{Kind}
use Rattle.settings_file.proofs.node_keys.each_integer.Given as goal

abbrev pub invariant-loop-i : goal.invariant-loop-i
invariant-loop-i l = after l.integers.items (each (λ _. integer_in (Kind l.key)) l.i (map view (drop l.i l.values))) ≡ each (λ _. integer_in (Kind l.key)) 0 (map view l.values)
