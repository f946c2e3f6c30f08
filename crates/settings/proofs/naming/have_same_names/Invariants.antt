use Rattle.settings.proofs.Basics.{◌≡◌, map, take}
use Rattle.settings.proofs.naming.have_same_names.Given as goal

abbrev pub invariant-loop-i : goal.invariant-loop-i
invariant-loop-i l = map (λ l. l.name) (take l.i l.near) ≡ map (λ l. l.name) (take l.i l.far)
