-- If the link began to carry traffic, anything may be pending.
use Rattle.exchange.proofs.Basics.{◌<◌, length, arith, ap, ◌∙◌, false, carries_traffic, link_in, State, KeptQueues}
use Rattle.exchange.proofs.Rooms.{moved_room}
use Rattle.exchange.proofs.exchange.Exchange.set_test_passed.Goals as goal

pub invariant_of-self : goal.invariant_of-self
invariant_of-self c =
    let there : c.args.link < length c.self.inside.links.links =
    omega (arith, c.requires, c.self.invariant.links, ap (λ (s : State KeptQueues). length s.settings.links) c.self.view_is) in
    moved_room c.self.inside c.pass_test.new.self c.args.link (record (link_in c.self.inside.links.links c.args.link) { test_failed = false; untested = false })
    c.carries_traffic-carried.result c.carries_traffic-carries.result c.has_changed-changed.result c.add_all_if.new.self c.mark_all_if.new.self c.self.invariant c.pass_test.ensures
    (c.carries_traffic-carried.ensures ∙ ap carries_traffic c.state.ensures)
    (c.carries_traffic-carries.ensures ∙ ap carries_traffic c.state-2.ensures) c.has_changed-changed.ensures c.add_all_if.ensures c.mark_all_if.ensures there
