-- Laws of links that are barred, by computation.
use Rattle.exchange_rules.proofs.Basics.{refl}
use Rattle.exchange_rules.proofs.Definitions.{choice_among, first_sets, link_by, set_timer, clear_timer}
use Rattle.routes.specs.Routes.{links_below}
use Rattle.exchange_rules.specs.BarExamples as examples

pub t2_bars_a_link : examples.t2_bars_a_link
unfolding choice_among link_by first_sets links_below set_timer clear_timer
t2_bars_a_link = refl

pub bar_has_its_ticks : examples.bar_has_its_ticks
unfolding choice_among link_by first_sets links_below set_timer clear_timer
bar_has_its_ticks = refl

pub bar_breaks_nothing : examples.bar_breaks_nothing
unfolding choice_among link_by first_sets links_below set_timer clear_timer
bar_breaks_nothing = refl

pub bar_ends_by_t2 : examples.bar_ends_by_t2
unfolding choice_among link_by first_sets links_below set_timer clear_timer
bar_ends_by_t2 = refl

pub bar_ends_with_its_notice : examples.bar_ends_with_its_notice
unfolding choice_among link_by first_sets links_below set_timer clear_timer
bar_ends_with_its_notice = refl

pub end_of_a_bar_is_a_break : examples.end_of_a_bar_is_a_break
unfolding choice_among link_by first_sets links_below set_timer clear_timer
end_of_a_bar_is_a_break = refl

pub t2_ends_the_wait : examples.t2_ends_the_wait
unfolding choice_among link_by first_sets links_below set_timer clear_timer
t2_ends_the_wait = refl

pub t2_breaks_without_a_bar : examples.t2_breaks_without_a_bar
unfolding choice_among link_by first_sets links_below set_timer clear_timer
t2_breaks_without_a_bar = refl

pub order_bars_a_link : examples.order_bars_a_link
unfolding choice_among link_by first_sets links_below set_timer clear_timer
order_bars_a_link = refl

pub order_without_number_breaks_nothing : examples.order_without_number_breaks_nothing
unfolding choice_among link_by first_sets links_below set_timer clear_timer
order_without_number_breaks_nothing = refl

pub unreasonable_number_is_a_break : examples.unreasonable_number_is_a_break
unfolding choice_among link_by first_sets links_below set_timer clear_timer
unreasonable_number_is_a_break = refl

pub release_ends_a_bar : examples.release_ends_a_bar
unfolding choice_among link_by first_sets links_below set_timer clear_timer
release_ends_a_bar = refl

pub release_is_a_break : examples.release_is_a_break
unfolding choice_among link_by first_sets links_below set_timer clear_timer
release_is_a_break = refl

pub release_waits_for_the_changeover : examples.release_waits_for_the_changeover
unfolding choice_among link_by first_sets links_below set_timer clear_timer
release_waits_for_the_changeover = refl

pub order_goes_once : examples.order_goes_once
unfolding choice_among link_by first_sets links_below set_timer clear_timer
order_goes_once = refl

pub bar_ends_once : examples.bar_ends_once
unfolding choice_among link_by first_sets links_below set_timer clear_timer
bar_ends_once = refl

pub reasonable_number_breaks_nothing : examples.reasonable_number_breaks_nothing
unfolding choice_among link_by first_sets links_below set_timer clear_timer
reasonable_number_breaks_nothing = refl

pub answer_ends_a_bar : examples.answer_ends_a_bar
unfolding choice_among link_by first_sets links_below set_timer clear_timer
answer_ends_a_bar = refl

pub answer_stops_t2 : examples.answer_stops_t2
unfolding choice_among link_by first_sets links_below set_timer clear_timer
answer_stops_t2 = refl

pub answer_breaks_nothing : examples.answer_breaks_nothing
unfolding choice_among link_by first_sets links_below set_timer clear_timer
answer_breaks_nothing = refl

pub order_leaves_a_bar : examples.order_leaves_a_bar
unfolding choice_among link_by first_sets links_below set_timer clear_timer
order_leaves_a_bar = refl

pub order_leaves_its_time : examples.order_leaves_its_time
unfolding choice_among link_by first_sets links_below set_timer clear_timer
order_leaves_its_time = refl

pub barred_order_is_answered : examples.barred_order_is_answered
unfolding choice_among link_by first_sets links_below set_timer clear_timer
barred_order_is_answered = refl

pub release_stops_t2 : examples.release_stops_t2
unfolding choice_among link_by first_sets links_below set_timer clear_timer
release_stops_t2 = refl

pub ordered_bar_has_its_ticks : examples.ordered_bar_has_its_ticks
unfolding choice_among link_by first_sets links_below set_timer clear_timer
ordered_bar_has_its_ticks = refl
