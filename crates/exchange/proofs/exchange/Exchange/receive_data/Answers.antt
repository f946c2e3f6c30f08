-- On a link in service the alignment does nothing about User Data.
use Rattle.exchange.proofs.Basics.{sym, ◌∙◌, kept, carrying}
use Rattle.exchange.proofs.Serving.{taken_in_service}
use Rattle.exchange.proofs.exchange.Exchange.receive_data.Goals as goal

pub returns-then-serves : goal.returns-then-serves
returns-then-serves c =
    rw (taken_in_service kept c.args.self.now.settings c.args.link (carrying c.args.frame.now) c.args.self.now.node
    (sym c.serves.ensures ∙ c.if-serves.true))
    c.handle.ensures
