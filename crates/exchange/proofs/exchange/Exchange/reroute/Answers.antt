-- Each link, set and destination keeps its index, a release is due, and updates about the destination may be pending.
use Rattle.exchange.proofs.Basics.{◌<◌, length, arith, ap, sym, subst, facts_of, rerouted, State, HasHoldsFor, held_for-fits, KeptQueues}
use Rattle.exchange.proofs.Rooms.{rerouted_room}
use Rattle.exchange.proofs.exchange.Exchange.reroute.Goals as goal

pub invariant_of-self : goal.invariant_of-self
invariant_of-self c =
    let there : c.args.destination < length c.self.inside.settings.destinations =
    omega (arith, c.requires, ap (λ (s : State KeptQueues). length s.settings.destinations) c.self.view_is) in
    rerouted_room c.self.inside c.reroute.new.links c.reroute.new.holds c.set.new.self c.args.destination c.args.set c.args.status c.add.new.self c.mark.new.self
    c.self.invariant c.reroute.ensures.links there c.add.ensures c.mark.ensures
    (subst (HasHoldsFor c.self.inside.settings) (sym c.reroute.ensures.holds)
    (held_for-fits c.self.inside.settings c.self.inside.holds c.args.destination
    (rerouted (facts_of c.self.inside.links) (facts_of c.reroute.new.links) c.args.destination) c.self.invariant.holds))

pub invariant_of-self-else-reroute : goal.invariant_of-self-else-reroute
invariant_of-self-else-reroute c =
    let there : c.args.destination < length c.self.inside.settings.destinations =
    omega (arith, c.requires, ap (λ (s : State KeptQueues). length s.settings.destinations) c.self.view_is) in
    rerouted_room c.self.inside c.reroute.new.links c.reroute.new.holds c.self.inside.timers c.args.destination c.args.set c.args.status c.add.new.self c.mark.new.self
    c.self.invariant c.reroute.ensures.links there c.add.ensures c.mark.ensures
    (subst (HasHoldsFor c.self.inside.settings) (sym c.reroute.ensures.holds)
    (held_for-fits c.self.inside.settings c.self.inside.holds c.args.destination
    (rerouted (facts_of c.self.inside.links) (facts_of c.reroute.new.links) c.args.destination) c.self.invariant.holds))
