use Rattle.routes.proofs.Basics.{ap, Facts, routes_to}
use Rattle.routes.proofs.Compiling.{worked_out}
use Rattle.routes.proofs.route_facts.RouteFacts.link_of.Goals as goal

pub returns : goal.returns
returns c =
    worked_out c.args.self.now (routes_to c.args.self.now c.args.destination) c.choice-choice.result.group.now c.taken_by.result.items c.deref.result.now
    c.args.sls c.first_serving.result c.self.inside.in_service.now c.sets_of-sets.result.items c.deref-2.result.now c.choice-choice.result.status c.members.result
    c.first_serving.ensures (ap (λ (f : Facts). f.in_service) c.self.view_is) c.deref-2.ensures.0 c.sets_of-sets.ensures c.deref.ensures.0
    c.taken_by.ensures c.members.ensures c.choice-choice.ensures.group c.choice-choice.ensures.status
