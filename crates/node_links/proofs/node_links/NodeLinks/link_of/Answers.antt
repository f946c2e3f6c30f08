-- The routes know which links carry traffic, and a link that carries traffic is there.
use Rattle.node_links.proofs.Basics.{ap, ◌∙◌, Facts, chosen_link, facts_of}
use Rattle.node_links.proofs.Chosen.{facts_kept, answer_is_there}
use Rattle.node_links.proofs.node_links.NodeLinks.link_of.Goals as goal

pub returns-clause-link : goal.returns-clause-link
returns-clause-link c =
    c.link_of.ensures ∙ ap (λ (f : Facts). chosen_link f c.args.destination c.args.sls)
    (facts_kept c.self.inside.routes c.self.inside.states.items c.self.invariant.serving ∙ ap facts_of c.self.view_is)

pub returns-clause-fits : goal.returns-clause-fits
returns-clause-fits c = answer_is_there c.args.self.now c.args.destination c.args.sls _ (returns-clause-link c)
