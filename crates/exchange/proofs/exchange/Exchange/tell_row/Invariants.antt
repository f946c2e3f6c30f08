-- What is left to tell, and what was told, is all that the row says. Nothing that the walk has passed is owed.
use Rattle.exchange.proofs.Basics.{◌≡◌, ◌-◌, length, shape_of, OwesNoneBefore, known}
use Rattle.exchange.proofs.Telling.{row_rest}
use Rattle.exchange.proofs.exchange.Exchange.tell_row.Given as goal

abbrev pub invariant-loop-destination : goal.invariant-loop-destination
invariant-loop-destination l =
    (row_rest l.set l.destination (length l.fn.self.settings.destinations - l.destination) l.self
    ≡ row_rest l.set 0 (length l.fn.self.settings.destinations) l.fn.self)
    × OwesNoneBefore (known l.self) l.self.node.parts.told l.set l.destination
    × (shape_of l.self.node.parts.told ≡ shape_of l.fn.self.node.parts.told)

abbrev pub decreases-loop-destination : goal.decreases-loop-destination
decreases-loop-destination l = l.end - l.destination
