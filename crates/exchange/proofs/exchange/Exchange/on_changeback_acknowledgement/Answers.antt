-- Each link, set and destination keeps its index.
use Rattle.exchange.proofs.Basics.{Bool, length, refl, sym, subst, is_outstanding, HasHoldsFor, HasCodes, freed_codes-fits, freed_holds-fits}
use Rattle.exchange.proofs.Rooms.{held_room}
use Rattle.exchange.proofs.exchange.Exchange.on_changeback_acknowledgement.Goals as goal

pub invariant_of-self-2 : goal.invariant_of-self-2
invariant_of-self-2 c =
    let waits : Bool = is_outstanding c.self.inside.changeback c.in-Some.set c.args.code in
    held_room c.self.inside c.self.inside.links c.acknowledge.new.self c.acknowledge.new.holds c.clear.new.self c.self.invariant
    refl
    (subst (HasCodes (length c.self.inside.settings.sets)) (sym c.acknowledge.ensures.codes)
    (freed_codes-fits (length c.self.inside.settings.sets) c.self.inside.changeback c.in-Some.set c.args.code waits c.self.invariant.codes))
    (subst (HasHoldsFor c.self.inside.settings) (sym c.acknowledge.ensures.holds)
    (freed_holds-fits c.self.inside.settings c.self.inside.holds c.in-Some.set c.args.code waits c.self.invariant.holds))
