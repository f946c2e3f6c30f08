use Rattle.timers.proofs.Basics.{ap, ◌∙◌, due_count, table_in}
use Rattle.timers.proofs.Viewed.{map-count}
use Rattle.timers.proofs.timers.Timers.due_count.Goals as goal

pub returns : goal.returns
returns c = c.due_count.ensures ∙ map-count (table_in c.self.inside) c.self.invariant.whole ∙ ap due_count c.self.view_is
