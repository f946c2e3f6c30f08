-- The pieces come one after the other.
use Rattle.status_page.specs.States.{node_members}
use Rattle.status_page.proofs.Adding.{behind}
use Rattle.status_page.proofs.Shown.{place_put}
use Rattle.status_page.proofs.state.put_node.Goals as goal

pub returns : goal.returns
unfolding node_members
returns c =
    behind c.put_counts.result c.args.out.now c.put_program.new.out c.put_counts.new.out _ _ c.in_ok-put_program.ensures
    (behind c.put_counts.result c.put_program.new.out c.put_place.new.out c.put_counts.new.out _ _
    (place_put c.args.points c.settings.result.now c.args.exchange.now.settings c.put_program.new.out c.put_place.new.out c.settings.ensures.kept_settings c.in_ok-put_place.ensures)
    (c.put_counts.ensures))
