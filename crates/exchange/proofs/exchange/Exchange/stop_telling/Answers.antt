-- Nothing is owed before the index where the walk stopped.
use Rattle.exchange.proofs.Basics.{length, sym, subst, Updates, State, KeptQueues, OwesNoneBut, known}
use Rattle.exchange.proofs.Pending.{left_from}
use Rattle.exchange.proofs.Rooms.{pending_room, view_pending}
use Rattle.exchange.proofs.exchange.Exchange.stop_telling.Goals as goal

pub invariant_of-self : goal.invariant_of-self
invariant_of-self c =
    let s : State KeptQueues = c.args.self.now in
    pending_room c.self.inside s c.clear_before.new.self c.self.invariant c.self.view_is
    (subst (λ (p : Updates). OwesNoneBut (length c.self.inside.settings.destinations) p (known s) s.node.parts.told) (sym c.clear_before.ensures)
    (left_from (length c.self.inside.settings.destinations) c.self.inside.pending (known s) s.node.parts.told c.args.set c.args.destination
    (view_pending c.self.inside s c.self.invariant c.self.view_is) c.requires))
