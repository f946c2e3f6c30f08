-- If the link carried traffic, anything may be pending.
use Rattle.exchange.proofs.Basics.{refl, ap, ◌∙◌, after_failure, carries_traffic, link_in}
use Rattle.exchange.proofs.Rooms.{left_room}
use Rattle.exchange.proofs.exchange.Exchange.fail_state.Goals as goal

pub invariant_of-self : goal.invariant_of-self
invariant_of-self c =
    left_room c.self.inside c.fail.new.self c.args.link (after_failure (link_in c.self.inside.links.links c.args.link)) c.carries_traffic-carried.result c.add_all_if.new.self c.mark_all_if.new.self
    c.self.invariant c.fail.ensures (c.carries_traffic-carried.ensures ∙ ap carries_traffic c.state.ensures) refl c.add_all_if.ensures c.mark_all_if.ensures
