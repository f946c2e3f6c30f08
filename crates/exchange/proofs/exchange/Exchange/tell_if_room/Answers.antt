-- If there is no room, nothing is told.
use Rattle.exchange.proofs.Basics.{ap, sym, ◌∙◌, State, Node, with_node, KeptQueues, kept, no_room_told}
use Rattle.exchange.proofs.exchange.Exchange.tell_if_room.Goals as goal

pub returns-else-may_tell : goal.returns-else-may_tell
returns-else-may_tell c =
    let s : State KeptQueues = c.args.self.now in
    ap (λ (n : Node KeptQueues). with_node s n) (sym (no_room_told kept s.settings s.node (sym c.may_tell.ensures ∙ c.if-may_tell.false)))
