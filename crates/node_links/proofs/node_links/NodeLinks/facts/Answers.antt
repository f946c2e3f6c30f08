-- The routes know which links carry traffic.
use Rattle.node_links.proofs.Basics.{ap, ◌∙◌, facts_of}
use Rattle.node_links.proofs.Chosen.{facts_kept}
use Rattle.node_links.proofs.node_links.NodeLinks.facts.Goals as goal

pub returns : goal.returns
returns c =
    c.facts.ensures ∙ facts_kept c.self.inside.routes c.self.inside.states.items c.self.invariant.serving ∙ ap facts_of c.self.view_is
