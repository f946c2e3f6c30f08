-- A flow of two joined sets, as a link of the other set leaves service, by computation.
use Rattle.routes.proofs.Basics.{refl, choice_among, link_by}
use Rattle.routes.specs.RouteExamples as examples

pub flow_has_link_2 : examples.flow_has_link_2
unfolding choice_among link_by
flow_has_link_2 = refl

pub flow_keeps_link_2 : examples.flow_keeps_link_2
unfolding choice_among link_by
flow_keeps_link_2 = refl
