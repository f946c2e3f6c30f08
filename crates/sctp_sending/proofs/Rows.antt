-- Rows of RFC 9260, by computation.
use Rattle.std.proofs.Common.{refl}
use Rattle.sctp_sending.specs.Outgoing.{lost_from}
use Rattle.sctp_sending.specs.Sending.{given, next_place, gone_again, gone_first, confirmation, confirmed, settled, named_below, passed_below, acknowledged, after_t3}
use Rattle.sctp_sending.specs.Rows as rows

pub first_measurement : rows.first_measurement
first_measurement = refl

pub later_measurement : rows.later_measurement
later_measurement = refl

pub no_less_than_least : rows.no_less_than_least
no_less_than_least = refl

pub no_more_than_most : rows.no_more_than_most
no_more_than_most = refl

pub timeout_doubles : rows.timeout_doubles
timeout_doubles = refl

pub timeout_doubles_up_to_most : rows.timeout_doubles_up_to_most
timeout_doubles_up_to_most = refl

pub window_at_first : rows.window_at_first
window_at_first = refl

pub slow_start : rows.slow_start
slow_start = refl

pub slow_start_by_a_packet : rows.slow_start_by_a_packet
slow_start_by_a_packet = refl

pub slow_start_if_full : rows.slow_start_if_full
slow_start_if_full = refl

pub slow_start_of_a_large_window : rows.slow_start_of_a_large_window
slow_start_of_a_large_window = refl

pub avoidance_counts : rows.avoidance_counts
avoidance_counts = refl

pub avoidance_grows : rows.avoidance_grows
avoidance_grows = refl

pub avoidance_if_full : rows.avoidance_if_full
avoidance_if_full = refl

pub loss_halves : rows.loss_halves
loss_halves = refl

pub loss_leaves_four_packets : rows.loss_leaves_four_packets
loss_leaves_four_packets = refl

pub recovery_halves_once : rows.recovery_halves_once
recovery_halves_once = refl

pub recovery_grows_nothing : rows.recovery_grows_nothing
recovery_grows_nothing = refl

pub timeout_leaves_one_packet : rows.timeout_leaves_one_packet
timeout_leaves_one_packet = refl

pub timeout_of_a_small_window : rows.timeout_of_a_small_window
timeout_of_a_small_window = refl

pub blocks_are_offsets : rows.blocks_are_offsets
unfolding given lost_from next_place gone_again gone_first confirmation confirmed settled named_below passed_below acknowledged after_t3
blocks_are_offsets = refl

pub window_shrinks : rows.window_shrinks
unfolding given lost_from next_place gone_again gone_first confirmation confirmed settled named_below passed_below acknowledged after_t3
window_shrinks = refl

pub window_is_less_what_is_under_way : rows.window_is_less_what_is_under_way
unfolding given lost_from next_place gone_again gone_first confirmation confirmed settled named_below passed_below acknowledged after_t3
window_is_less_what_is_under_way = refl

pub shut_window_is_probed : rows.shut_window_is_probed
unfolding given lost_from next_place gone_again gone_first confirmation confirmed settled named_below passed_below acknowledged after_t3
shut_window_is_probed = refl

pub shut_window_is_probed_again : rows.shut_window_is_probed_again
unfolding given lost_from next_place gone_again gone_first confirmation confirmed settled named_below passed_below acknowledged after_t3
shut_window_is_probed_again = refl

pub second_report_retransmits_nothing : rows.second_report_retransmits_nothing
unfolding given lost_from next_place gone_again gone_first confirmation confirmed settled named_below passed_below acknowledged after_t3
second_report_retransmits_nothing = refl

pub third_report_retransmits : rows.third_report_retransmits
unfolding given lost_from next_place gone_again gone_first confirmation confirmed settled named_below passed_below acknowledged after_t3
third_report_retransmits = refl

pub retransmission_goes_first : rows.retransmission_goes_first
unfolding given lost_from next_place gone_again gone_first confirmation confirmed settled named_below passed_below acknowledged after_t3
retransmission_goes_first = refl

pub retransmission_halves : rows.retransmission_halves
unfolding given lost_from next_place gone_again gone_first confirmation confirmed settled named_below passed_below acknowledged after_t3
retransmission_halves = refl

pub report_counts_once : rows.report_counts_once
unfolding given lost_from next_place gone_again gone_first confirmation confirmed settled named_below passed_below acknowledged after_t3
report_counts_once = refl

pub retransmission_restarts_t3 : rows.retransmission_restarts_t3
unfolding given lost_from next_place gone_again gone_first confirmation confirmed settled named_below passed_below acknowledged after_t3
retransmission_restarts_t3 = refl

pub another_goes_out_again : rows.another_goes_out_again
unfolding given lost_from next_place gone_again gone_first confirmation confirmed settled named_below passed_below acknowledged after_t3
another_goes_out_again = refl

pub another_leaves_t3 : rows.another_leaves_t3
unfolding given lost_from next_place gone_again gone_first confirmation confirmed settled named_below passed_below acknowledged after_t3
another_leaves_t3 = refl

pub named_octets_count : rows.named_octets_count
unfolding given lost_from next_place gone_again gone_first confirmation confirmed settled named_below passed_below acknowledged after_t3
named_octets_count = refl

pub nothing_is_summed_at_the_end : rows.nothing_is_summed_at_the_end
unfolding given lost_from next_place gone_again gone_first confirmation confirmed settled named_below passed_below acknowledged after_t3
nothing_is_summed_at_the_end = refl

pub t3_starts : rows.t3_starts
unfolding given lost_from next_place gone_again gone_first confirmation confirmed settled named_below passed_below acknowledged after_t3
t3_starts = refl

pub t3_restarts : rows.t3_restarts
unfolding given lost_from next_place gone_again gone_first confirmation confirmed settled named_below passed_below acknowledged after_t3
t3_restarts = refl

pub t3_stops : rows.t3_stops
unfolding given lost_from next_place gone_again gone_first confirmation confirmed settled named_below passed_below acknowledged after_t3
t3_stops = refl

pub t3_stays : rows.t3_stays
unfolding given lost_from next_place gone_again gone_first confirmation confirmed settled named_below passed_below acknowledged after_t3
t3_stays = refl

pub outstanding_is_lost : rows.outstanding_is_lost
unfolding given lost_from next_place gone_again gone_first confirmation confirmed settled named_below passed_below acknowledged after_t3
outstanding_is_lost = refl

pub t3_starts_again : rows.t3_starts_again
unfolding given lost_from next_place gone_again gone_first confirmation confirmed settled named_below passed_below acknowledged after_t3
t3_starts_again = refl

pub one_round_trip_is_measured : rows.one_round_trip_is_measured
unfolding given lost_from next_place gone_again gone_first confirmation confirmed settled named_below passed_below acknowledged after_t3
one_round_trip_is_measured = refl

pub timed_out_measures_nothing : rows.timed_out_measures_nothing
unfolding given lost_from next_place gone_again gone_first confirmation confirmed settled named_below passed_below acknowledged after_t3
timed_out_measures_nothing = refl

pub retransmitted_measures_nothing : rows.retransmitted_measures_nothing
unfolding given lost_from next_place gone_again gone_first confirmation confirmed settled named_below passed_below acknowledged after_t3
retransmitted_measures_nothing = refl

pub first_transmissions_count_nothing : rows.first_transmissions_count_nothing
unfolding given lost_from next_place gone_again gone_first confirmation confirmed settled named_below passed_below acknowledged after_t3
first_transmissions_count_nothing = refl

pub losses_count_nothing : rows.losses_count_nothing
unfolding given lost_from next_place gone_again gone_first confirmation confirmed settled named_below passed_below acknowledged after_t3
losses_count_nothing = refl

pub retransmission_by_t3_counts : rows.retransmission_by_t3_counts
unfolding given lost_from next_place gone_again gone_first confirmation confirmed settled named_below passed_below acknowledged after_t3
retransmission_by_t3_counts = refl

pub fast_retransmission_counts : rows.fast_retransmission_counts
unfolding given lost_from next_place gone_again gone_first confirmation confirmed settled named_below passed_below acknowledged after_t3
fast_retransmission_counts = refl

pub each_retransmission_counts : rows.each_retransmission_counts
unfolding given lost_from next_place gone_again gone_first confirmation confirmed settled named_below passed_below acknowledged after_t3
each_retransmission_counts = refl

pub confirmation_leaves_the_count : rows.confirmation_leaves_the_count
unfolding given lost_from next_place gone_again gone_first confirmation confirmed settled named_below passed_below acknowledged after_t3
confirmation_leaves_the_count = refl
