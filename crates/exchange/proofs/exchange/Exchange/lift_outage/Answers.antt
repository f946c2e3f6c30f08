-- Each link, set and destination keeps its index.
use Rattle.exchange.proofs.Basics.{refl, sym, subst, Changeover, HasHoldsFor, lifted-fits}
use Rattle.exchange.proofs.Rooms.{held_room}
use Rattle.exchange.proofs.exchange.Exchange.lift_outage.Goals as goal

pub invariant_of-self : goal.invariant_of-self
invariant_of-self c =
    held_room c.self.inside c.self.inside.links c.self.inside.changeback c.lift.new.self c.self.inside.timers c.self.invariant
    refl c.self.invariant.codes
    (subst (HasHoldsFor c.self.inside.settings) (sym c.lift.ensures) (lifted-fits c.self.inside.settings c.self.inside.holds (Changeover c.args.link) c.self.invariant.holds))
