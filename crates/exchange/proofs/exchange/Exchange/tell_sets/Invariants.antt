-- What is left to tell, and what was told, is all that is owed. Nothing that the walk has passed is owed.
use Rattle.exchange.proofs.Basics.{◌≡◌, ◌-◌, length, shape_of, OwesNoneBefore, known}
use Rattle.exchange.proofs.Telling.{sets_rest}
use Rattle.exchange.proofs.exchange.Exchange.tell_sets.Given as goal

abbrev pub invariant-loop-set : goal.invariant-loop-set
invariant-loop-set l =
    (sets_rest l.set (length l.fn.self.settings.sets - l.set) l.self
    ≡ sets_rest 0 (length l.fn.self.settings.sets) l.fn.self)
    × OwesNoneBefore (known l.self) l.self.node.parts.told l.set 0
    × (shape_of l.self.node.parts.told ≡ shape_of l.fn.self.node.parts.told)
