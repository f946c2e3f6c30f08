-- What isn't pending isn't owed.
use Rattle.exchange.proofs.Rooms.{view_pending}
use Rattle.exchange.proofs.exchange.Exchange.next_pending.Goals as goal

pub returns-in-Some-clause-none : goal.returns-in-Some-clause-none
returns-in-Some-clause-none c = λ about least below.
    (view_pending c.self.inside c.args.self.now c.self.invariant c.self.view_is).none c.args.set about (c.in-Some.ensures.some.first about least below)

pub returns-in-None-clause-none : goal.returns-in-None-clause-none
returns-in-None-clause-none c = λ about least below.
    (view_pending c.self.inside c.args.self.now c.self.invariant c.self.view_is).none c.args.set about (c.in-None.ensures.none about least)
