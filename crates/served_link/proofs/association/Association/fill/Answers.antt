use Rattle.served_link.proofs.Basics.{subst, kept, Connection, Fills, pending_in}
use Rattle.served_link.proofs.Standing.{fills-stands}
use Rattle.served_link.proofs.association.Association.fill.Goals as goal

pub returns-clause-kept_fill : goal.returns-clause-kept_fill
returns-clause-kept_fill g c =
    subst
    (λ (a : Connection). Fills g.W.Watch.sees kept a.link a.pending (pending_in c.fill_all.new.outgoing) c.args.exchange.now c.fill_all.new.exchange c.args.watch.now c.fill_all.new.watch)
    c.self.view_is c.fill_all.ensures

pub returns-clause-fill : goal.returns-clause-fill
returns-clause-fill g c = λ a s.
    let h =
    fills-stands g.W.Watch.sees c.args.self.now.link c.args.self.now.pending (pending_in c.fill_all.new.outgoing) c.args.exchange.now c.fill_all.new.exchange a c.args.watch.now c.fill_all.new.watch s
    (returns-clause-kept_fill g c)
    in
    (h.after, h.stands, h.fills)
