-- A link that carries traffic is there.
use Rattle.node_links.proofs.Basics.{ap, ◌∙◌}
use Rattle.routes.specs.Routes.{Facts, chosen_link}
use Rattle.node_links.proofs.Chosen.{other_is_there}
use Rattle.node_links.proofs.node_links.NodeLinks.link_before.Goals as goal

pub returns-clause-fits : goal.returns-clause-fits
returns-clause-fits c =
    other_is_there c.args.self.now c.args.link c.args.destination c.args.sls _
    (c.link_of.ensures ∙ ap (λ (f : Facts). chosen_link f c.args.destination c.args.sls) c.requires)
