-- The routes know which links carry traffic.
use Rattle.node_links.proofs.Basics.{ap, ◌∙◌, false, List, Bool, slice_set}
use Rattle.node_links.specs.NodeLinks.{Network, serving}
use Rattle.node_links.proofs.node_links.NodeLinks.in_service_without.Goals as goal

pub returns : goal.returns
returns c =
    c.in_service_without.ensures
    ∙ ap (λ (bs : List Bool). slice_set bs c.args.link false) (c.self.invariant.serving ∙ ap (λ (n : Network). serving n.links) c.self.view_is)
