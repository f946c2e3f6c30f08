use Rattle.node_links.proofs.Basics.{ap, ◌∙◌}
use Rattle.node_links.specs.NodeLinks.{Network}
use Rattle.node_links.proofs.node_links.NodeLinks.facts_by.Goals as goal

pub returns : goal.returns
returns c = c.facts_by.ensures ∙ ap (λ (n : Network). record { sets = n.sets; in_service = c.args.in_service.now; routes = n.routes }) c.self.view_is
