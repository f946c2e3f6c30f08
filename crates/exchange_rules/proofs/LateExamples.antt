-- Laws of orders that go out late, by computation.
use Rattle.exchange_rules.proofs.Basics.{refl}
use Rattle.exchange_rules.proofs.Definitions.{choice_among, first_sets, link_by, order_each, set_timer, clear_timer}
use Rattle.routes.specs.Routes.{links_below}
use Rattle.timers.specs.Timers.{due_count, names_of}
use Rattle.exchange_rules.specs.LateExamples as examples

pub late_order_is_awaited : examples.late_order_is_awaited
unfolding choice_among link_by first_sets links_below set_timer clear_timer order_each
late_order_is_awaited = refl

pub late_order_stops_t1 : examples.late_order_stops_t1
unfolding choice_among link_by first_sets links_below set_timer clear_timer order_each
late_order_stops_t1 = refl

pub late_order_starts_t2 : examples.late_order_starts_t2
unfolding choice_among link_by first_sets links_below set_timer clear_timer order_each
late_order_starts_t2 = refl

pub late_order_goes_by_the_mate : examples.late_order_goes_by_the_mate
unfolding choice_among link_by first_sets links_below set_timer clear_timer order_each
late_order_goes_by_the_mate = refl

pub late_order_goes_once : examples.late_order_goes_once
unfolding choice_among link_by first_sets links_below set_timer clear_timer order_each
late_order_goes_once = refl

pub late_order_needs_its_key : examples.late_order_needs_its_key
unfolding choice_among link_by first_sets links_below set_timer clear_timer order_each
late_order_needs_its_key = refl

pub frame_lets_an_order_go : examples.frame_lets_an_order_go
unfolding choice_among link_by first_sets links_below set_timer clear_timer order_each
frame_lets_an_order_go = refl

pub refused_frame_lets_none_go : examples.refused_frame_lets_none_go
unfolding choice_among link_by first_sets links_below set_timer clear_timer order_each
refused_frame_lets_none_go = refl

pub tick_lets_an_order_go : examples.tick_lets_an_order_go
unfolding choice_among link_by first_sets links_below set_timer clear_timer order_each due_count names_of
tick_lets_an_order_go = refl
