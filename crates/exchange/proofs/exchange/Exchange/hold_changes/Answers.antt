-- Each link, set and destination keeps its index.
use Rattle.exchange.proofs.Basics.{false, refl, sym, subst, with_link, facts_of, returned, HasHoldsFor}
use Rattle.exchange.proofs.Rooms.{held_by-fits, held_room}
use Rattle.exchange.proofs.exchange.Exchange.hold_changes.Goals as goal

pub invariant_of-self : goal.invariant_of-self
invariant_of-self c =
    held_room c.self.inside c.self.inside.links c.self.inside.changeback c.hold_changes.new.holds c.self.inside.timers c.self.invariant
    refl c.self.invariant.codes
    (subst (HasHoldsFor c.self.inside.settings) (sym c.hold_changes.ensures)
    (held_by-fits c.self.inside.settings c.self.inside.holds c.args.holders.now
    (returned c.args.link (with_link c.args.link false (facts_of c.self.inside.links)) (facts_of c.self.inside.links))
    c.self.invariant.holds))
