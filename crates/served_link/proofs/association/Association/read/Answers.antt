use Rattle.served_link.proofs.Basics.{subst, kept, Connection, Reads}
use Rattle.served_link.proofs.Standing.{reads-stands}
use Rattle.served_link.proofs.association.Association.read.Goals as goal

pub returns-clause-kept_read : goal.returns-clause-kept_read
returns-clause-kept_read g c =
    subst
    (λ (a : Connection). Reads g.W.Watch.sees kept a.link c.args.octets.now c.read_all.result a.held c.read_all.new.framer c.args.exchange.now c.read_all.new.exchange c.args.watch.now c.read_all.new.watch)
    c.self.view_is c.read_all.ensures

pub returns-clause-read : goal.returns-clause-read
returns-clause-read g c = λ a s.
    let r = returns-clause-kept_read g c in
    let h = reads-stands g.W.Watch.sees c.args.self.now.link c.args.octets.now c.read_all.result c.args.self.now.held c.read_all.new.framer c.args.exchange.now c.read_all.new.exchange a c.args.watch.now
    c.read_all.new.watch s r
    in
    (h.after, h.stands, h.reads)
