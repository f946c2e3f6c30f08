-- If the link carried traffic, anything may be pending.
use Rattle.exchange.proofs.Basics.{refl, ap, ◌∙◌, opened, carries_traffic, link_in}
use Rattle.exchange.proofs.Rooms.{left_room}
use Rattle.exchange.proofs.exchange.Exchange.begin_to_align.Goals as goal

pub invariant_of-self : goal.invariant_of-self
invariant_of-self c =
    left_room c.self.inside c.open.new.self c.args.link (record (opened c.out_of_service.result c.args.period (link_in c.self.inside.links.links c.args.link)) { untested = c.tests_links-untested.result }) c.carries_traffic-carried.result c.add_all_if.new.self c.mark_all_if.new.self
    c.self.invariant c.open.ensures (c.carries_traffic-carried.ensures ∙ ap carries_traffic c.state.ensures) refl c.add_all_if.ensures c.mark_all_if.ensures
