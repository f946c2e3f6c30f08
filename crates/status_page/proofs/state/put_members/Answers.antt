-- The pieces come one after the other.
use Rattle.status_page.specs.States.{state_members}
use Rattle.status_page.proofs.Adding.{behind, both}
use Rattle.status_page.proofs.state.put_members.Goals as goal

pub returns : goal.returns
unfolding state_members
returns c =
    behind c.put_notices.result c.args.out.now c.put_kinds.new.out c.put_notices.new.out _ _
    (both c.args.out.now c.put_routes.new.out c.put_kinds.new.out _ _
    (both c.args.out.now c.put_links.new.out c.put_routes.new.out _ _
    (both c.args.out.now c.put_sets.new.out c.put_links.new.out _ _
    (both c.args.out.now c.put_alarms.new.out c.put_sets.new.out _ _
    (both c.args.out.now c.put_node.new.out c.put_alarms.new.out _ _ c.in_ok-put_node.ensures c.in_ok-put_alarms.ensures)
    c.in_ok-put_sets.ensures) c.in_ok-put_links.ensures) c.in_ok-put_routes.ensures) c.in_ok-put_kinds.ensures) c.put_notices.ensures
