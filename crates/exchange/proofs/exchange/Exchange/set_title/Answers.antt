-- The table and the rule return the same, by cases of what they return.
use Rattle.exchange.proofs.Basics.{add_refusal, has_row, kept_in, row_place}
use Rattle.exchange.proofs.Relaying.{setting}
use Rattle.exchange.proofs.exchange.Exchange.set_title.Goals as goal

pub returns : goal.returns
returns c = rw (← c.self.view_is, c.handled_or_refused.ensures)
    (setting (kept_in c.self.inside) c.args.row (has_row c.self.inside.titles.rows (row_place c.args.row)) (add_refusal c.self.inside.titles.rows c.args.row) c.set.result c.set.new.self
    c.set.ensures.set c.set.ensures.unchanged c.set.ensures.replaced c.set.ensures.refused c.set.ensures.memory)
