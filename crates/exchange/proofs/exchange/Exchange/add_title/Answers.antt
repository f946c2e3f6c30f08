-- The table and the rule return the same, by cases of what they return.
use Rattle.exchange.proofs.Basics.{add_refusal, kept_in}
use Rattle.exchange.proofs.Relaying.{adding}
use Rattle.exchange.proofs.exchange.Exchange.add_title.Goals as goal

pub returns : goal.returns
returns c = rw (← c.self.view_is, c.handled_or_refused.ensures)
    (adding (kept_in c.self.inside) c.args.row (add_refusal c.self.inside.titles.rows c.args.row) c.add.result c.add.new.self
    c.add.ensures.added c.add.ensures.unchanged c.add.ensures.refused c.add.ensures.memory)
