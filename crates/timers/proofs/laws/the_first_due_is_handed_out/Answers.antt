use Rattle.timers.proofs.Dues.{due-left, due-first, due-none}
use Rattle.timers.proofs.laws.the_first_due_is_handed_out.Goals as goal

pub returns : goal.returns
returns c = record { due = due-left; first = due-first; none = due-none }
