-- Laws of orders to change over at a node of two sets, by computation.
use Rattle.exchange_rules.proofs.Basics.{refl}
use Rattle.exchange_rules.proofs.Definitions.{choice_among, first_sets, link_by}
use Rattle.routes.specs.Routes.{links_below}
use Rattle.exchange_rules.specs.OrderExamples as examples

pub order_goes_by_the_mate : examples.order_goes_by_the_mate
unfolding choice_among link_by first_sets links_below
order_goes_by_the_mate = refl

pub late_order_is_answered : examples.late_order_is_answered
unfolding choice_among link_by first_sets links_below
late_order_is_answered = refl

pub wait_outlasts_an_order : examples.wait_outlasts_an_order
unfolding choice_among link_by first_sets links_below
wait_outlasts_an_order = refl
