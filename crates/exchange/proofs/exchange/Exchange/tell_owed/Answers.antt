-- If nothing may be pending, nothing is owed.
use Rattle.exchange.proofs.Basics.{ap, sym, ◌∙◌, length, Facts, ToldTable, nothing_is_listed, owes_nothing_from_none, State, Node, with_node, nothing_told, KeptQueues, kept, known}
use Rattle.exchange.proofs.Pending.{none_is_owed}
use Rattle.exchange.proofs.Rooms.{view_pending}
use Rattle.exchange.proofs.exchange.Exchange.tell_owed.Goals as goal

pub returns-else-is_any : goal.returns-else-is_any
returns-else-is_any c =
    let s : State KeptQueues = c.args.self.now in
    let f : Facts = known s in
    let t : ToldTable = s.node.parts.told in
    ap (λ (n : Node KeptQueues). with_node s n)
    (sym (nothing_told kept s.settings s.node (owes_nothing_from_none f t (nothing_is_listed f t
    (none_is_owed (length c.self.inside.settings.destinations) c.self.inside.pending f t (sym c.is_any.ensures ∙ c.if-is_any.false)
    (view_pending c.self.inside s c.self.invariant c.self.view_is))))))
