-- Rows of the state table, by computation.
use Rattle.std.proofs.Common.{refl}
use Rattle.sctp_rules.specs.Endpoint.{after}
use Rattle.sctp_rules.specs.Confirming.{going}
use Rattle.sctp_sending.specs.Outgoing.{lost_from}
use Rattle.sctp_sending.specs.Sending.{named_below, passed_below, given, next_place, gone_again, gone_first, confirmation}
use Rattle.sctp_sending.specs.Sending.{confirmed, settled, acknowledged, after_t3, stopped}
use Rattle.sctp_receiving.specs.Receiver.{drained}
use Rattle.sctp_receiving.specs.Sack.{run_from, blocks_from}
use Rattle.sctp_rules.specs.Rows as rows

pub try_begins : rows.try_begins
unfolding after going drained run_from blocks_from lost_from named_below passed_below given next_place gone_again gone_first confirmation confirmed settled acknowledged after_t3 stopped
try_begins = record { phase_is = refl; sent_is = refl; told_is = refl }

pub init_is_answered : rows.init_is_answered
unfolding after going drained run_from blocks_from lost_from named_below passed_below given next_place gone_again gone_first confirmation confirmed settled acknowledged after_t3 stopped
init_is_answered = record { phase_is = refl; sent_is = refl; told_is = refl }

pub cookie_is_echoed : rows.cookie_is_echoed
unfolding after going drained run_from blocks_from lost_from named_below passed_below given next_place gone_again gone_first confirmation confirmed settled acknowledged after_t3 stopped
cookie_is_echoed = record { phase_is = refl; sent_is = refl; told_is = refl }

pub cookie_opens : rows.cookie_opens
unfolding after going drained run_from blocks_from lost_from named_below passed_below given next_place gone_again gone_first confirmation confirmed settled acknowledged after_t3 stopped
cookie_opens = record { phase_is = refl; sent_is = refl; told_is = refl }

pub cookie_is_acknowledged : rows.cookie_is_acknowledged
unfolding after going drained run_from blocks_from lost_from named_below passed_below given next_place gone_again gone_first confirmation confirmed settled acknowledged after_t3 stopped
cookie_is_acknowledged = record { phase_is = refl; sent_is = refl; told_is = refl }

pub acknowledgement_opens : rows.acknowledgement_opens
unfolding after going drained run_from blocks_from lost_from named_below passed_below given next_place gone_again gone_first confirmation confirmed settled acknowledged after_t3 stopped
acknowledgement_opens = record { phase_is = refl; sent_is = refl; told_is = refl }

pub cookie_with_another_tag_is_dropped : rows.cookie_with_another_tag_is_dropped
unfolding after going drained run_from blocks_from lost_from named_below passed_below given next_place gone_again gone_first confirmation confirmed settled acknowledged after_t3 stopped
cookie_with_another_tag_is_dropped = record { phase_is = refl; sent_is = refl; told_is = refl }

pub unwanted_init_is_dropped : rows.unwanted_init_is_dropped
unfolding after going drained run_from blocks_from lost_from named_below passed_below given next_place gone_again gone_first confirmation confirmed settled acknowledged after_t3 stopped
unwanted_init_is_dropped = record { phase_is = refl; sent_is = refl; told_is = refl }

pub unwanted_cookie_is_dropped : rows.unwanted_cookie_is_dropped
unfolding after going drained run_from blocks_from lost_from named_below passed_below given next_place gone_again gone_first confirmation confirmed settled acknowledged after_t3 stopped
unwanted_cookie_is_dropped = record { phase_is = refl; sent_is = refl; told_is = refl }

pub heartbeat_out_of_the_blue : rows.heartbeat_out_of_the_blue
unfolding after going drained run_from blocks_from lost_from named_below passed_below given next_place gone_again gone_first confirmation confirmed settled acknowledged after_t3 stopped
heartbeat_out_of_the_blue = record { phase_is = refl; sent_is = refl; told_is = refl }

pub cookie_ack_out_of_the_blue : rows.cookie_ack_out_of_the_blue
unfolding after going drained run_from blocks_from lost_from named_below passed_below given next_place gone_again gone_first confirmation confirmed settled acknowledged after_t3 stopped
cookie_ack_out_of_the_blue = record { phase_is = refl; sent_is = refl; told_is = refl }

pub shutdown_ack_out_of_the_blue : rows.shutdown_ack_out_of_the_blue
unfolding after going drained run_from blocks_from lost_from named_below passed_below given next_place gone_again gone_first confirmation confirmed settled acknowledged after_t3 stopped
shutdown_ack_out_of_the_blue = record { phase_is = refl; sent_is = refl; told_is = refl }

pub init_without_tag_is_dropped : rows.init_without_tag_is_dropped
unfolding after going drained run_from blocks_from lost_from named_below passed_below given next_place gone_again gone_first confirmation confirmed settled acknowledged after_t3 stopped
init_without_tag_is_dropped = record { phase_is = refl; sent_is = refl; told_is = refl }

pub init_goes_out_again : rows.init_goes_out_again
unfolding after going drained run_from blocks_from lost_from named_below passed_below given next_place gone_again gone_first confirmation confirmed settled acknowledged after_t3 stopped
init_goes_out_again = record { phase_is = refl; sent_is = refl; told_is = refl }

pub try_fails : rows.try_fails
unfolding after going drained run_from blocks_from lost_from named_below passed_below given next_place gone_again gone_first confirmation confirmed settled acknowledged after_t3 stopped
try_fails = record { phase_is = refl; sent_is = refl; told_is = refl }

pub try_is_refused : rows.try_is_refused
unfolding after going drained run_from blocks_from lost_from named_below passed_below given next_place gone_again gone_first confirmation confirmed settled acknowledged after_t3 stopped
try_is_refused = record { phase_is = refl; sent_is = refl; told_is = refl }

pub init_in_cookie_wait_is_answered : rows.init_in_cookie_wait_is_answered
unfolding after going drained run_from blocks_from lost_from named_below passed_below given next_place gone_again gone_first confirmation confirmed settled acknowledged after_t3 stopped
init_in_cookie_wait_is_answered = record { phase_is = refl; sent_is = refl; told_is = refl }

pub with_the_tag_of_the_try : rows.with_the_tag_of_the_try
unfolding after going drained run_from blocks_from lost_from named_below passed_below given next_place gone_again gone_first confirmation confirmed settled acknowledged after_t3 stopped
with_the_tag_of_the_try = refl

pub cookie_is_echoed_all_the_same : rows.cookie_is_echoed_all_the_same
unfolding after going drained run_from blocks_from lost_from named_below passed_below given next_place gone_again gone_first confirmation confirmed settled acknowledged after_t3 stopped
cookie_is_echoed_all_the_same = record { phase_is = refl; sent_is = refl; told_is = refl }

pub init_in_cookie_echoed_is_answered : rows.init_in_cookie_echoed_is_answered
unfolding after going drained run_from blocks_from lost_from named_below passed_below given next_place gone_again gone_first confirmation confirmed settled acknowledged after_t3 stopped
init_in_cookie_echoed_is_answered = record { phase_is = refl; sent_is = refl; told_is = refl }

pub with_another_tag : rows.with_another_tag
unfolding after going drained run_from blocks_from lost_from named_below passed_below given next_place gone_again gone_first confirmation confirmed settled acknowledged after_t3 stopped
with_another_tag = refl

pub try_goes_on : rows.try_goes_on
unfolding after going drained run_from blocks_from lost_from named_below passed_below given next_place gone_again gone_first confirmation confirmed settled acknowledged after_t3 stopped
try_goes_on = refl

pub acknowledgement_opens_all_the_same : rows.acknowledgement_opens_all_the_same
unfolding after going drained run_from blocks_from lost_from named_below passed_below given next_place gone_again gone_first confirmation confirmed settled acknowledged after_t3 stopped
acknowledgement_opens_all_the_same = record { phase_is = refl; sent_is = refl; told_is = refl }

pub cookie_of_a_new_try_ends_the_try : rows.cookie_of_a_new_try_ends_the_try
unfolding after going drained run_from blocks_from lost_from named_below passed_below given next_place gone_again gone_first confirmation confirmed settled acknowledged after_t3 stopped
cookie_of_a_new_try_ends_the_try = record { phase_is = refl; sent_is = refl; told_is = refl }

pub association_is_wanted_still : rows.association_is_wanted_still
unfolding after going drained run_from blocks_from lost_from named_below passed_below given next_place gone_again gone_first confirmation confirmed settled acknowledged after_t3 stopped
association_is_wanted_still = refl

pub peer_that_began_anew_gets_in : rows.peer_that_began_anew_gets_in
unfolding after going drained run_from blocks_from lost_from named_below passed_below given next_place gone_again gone_first confirmation confirmed settled acknowledged after_t3 stopped
peer_that_began_anew_gets_in = record { phase_is = refl; sent_is = refl; told_is = refl }

pub cookie_of_a_former_try_is_stale : rows.cookie_of_a_former_try_is_stale
unfolding after going drained run_from blocks_from lost_from named_below passed_below given next_place gone_again gone_first confirmation confirmed settled acknowledged after_t3 stopped
cookie_of_a_former_try_is_stale = record { phase_is = refl; sent_is = refl; told_is = refl }

pub stranger_is_offered_a_tag : rows.stranger_is_offered_a_tag
unfolding after going drained run_from blocks_from lost_from named_below passed_below given next_place gone_again gone_first confirmation confirmed settled acknowledged after_t3 stopped
stranger_is_offered_a_tag = refl

pub peer_is_offered_the_same : rows.peer_is_offered_the_same
unfolding after going drained run_from blocks_from lost_from named_below passed_below given next_place gone_again gone_first confirmation confirmed settled acknowledged after_t3 stopped
peer_is_offered_the_same = refl

pub no_tag_is_drawn : rows.no_tag_is_drawn
unfolding after going drained run_from blocks_from lost_from named_below passed_below given next_place gone_again gone_first confirmation confirmed settled acknowledged after_t3 stopped
no_tag_is_drawn = refl

pub tag_is_drawn_as_the_cookie_opens : rows.tag_is_drawn_as_the_cookie_opens
unfolding after going drained run_from blocks_from lost_from named_below passed_below given next_place gone_again gone_first confirmation confirmed settled acknowledged after_t3 stopped
tag_is_drawn_as_the_cookie_opens = refl

pub next_tag_is_offered : rows.next_tag_is_offered
unfolding after going drained run_from blocks_from lost_from named_below passed_below given next_place gone_again gone_first confirmation confirmed settled acknowledged after_t3 stopped
next_tag_is_offered = refl

pub cookie_of_the_offer_opens : rows.cookie_of_the_offer_opens
unfolding after going drained run_from blocks_from lost_from named_below passed_below given next_place gone_again gone_first confirmation confirmed settled acknowledged after_t3 stopped
cookie_of_the_offer_opens = record { phase_is = refl; sent_is = refl; told_is = refl }

pub cookie_of_another_offer_is_dropped : rows.cookie_of_another_offer_is_dropped
unfolding after going drained run_from blocks_from lost_from named_below passed_below given next_place gone_again gone_first confirmation confirmed settled acknowledged after_t3 stopped
cookie_of_another_offer_is_dropped = record { phase_is = refl; sent_is = refl; told_is = refl }

pub try_takes_the_offer : rows.try_takes_the_offer
unfolding after going drained run_from blocks_from lost_from named_below passed_below given next_place gone_again gone_first confirmation confirmed settled acknowledged after_t3 stopped
try_takes_the_offer = refl

pub cookie_made_before_opens_the_try : rows.cookie_made_before_opens_the_try
unfolding after going drained run_from blocks_from lost_from named_below passed_below given next_place gone_again gone_first confirmation confirmed settled acknowledged after_t3 stopped
cookie_made_before_opens_the_try = record { phase_is = refl; sent_is = refl; told_is = refl }

pub cookie_is_acknowledged_again : rows.cookie_is_acknowledged_again
unfolding after going drained run_from blocks_from lost_from named_below passed_below given next_place gone_again gone_first confirmation confirmed settled acknowledged after_t3 stopped
cookie_is_acknowledged_again = record { phase_is = refl; sent_is = refl; told_is = refl }

pub cookie_opens_once : rows.cookie_opens_once
unfolding after going drained run_from blocks_from lost_from named_below passed_below given next_place gone_again gone_first confirmation confirmed settled acknowledged after_t3 stopped
cookie_opens_once = record { phase_is = refl; sent_is = refl; told_is = refl }

pub restart_is_a_loss : rows.restart_is_a_loss
unfolding after going drained run_from blocks_from lost_from named_below passed_below given next_place gone_again gone_first confirmation confirmed settled acknowledged after_t3 stopped
restart_is_a_loss = record { phase_is = refl; sent_is = refl; told_is = refl }

pub restart_is_refused_in_shutdown : rows.restart_is_refused_in_shutdown
unfolding after going drained run_from blocks_from lost_from named_below passed_below given next_place gone_again gone_first confirmation confirmed settled acknowledged after_t3 stopped
restart_is_refused_in_shutdown = record { phase_is = refl; sent_is = refl; told_is = refl }

pub restarted_peer_completes : rows.restarted_peer_completes
unfolding after going drained run_from blocks_from lost_from named_below passed_below given next_place gone_again gone_first confirmation confirmed settled acknowledged after_t3 stopped
restarted_peer_completes = record { phase_is = refl; sent_is = refl; told_is = refl }

pub data_goes_out : rows.data_goes_out
unfolding after going drained run_from blocks_from lost_from named_below passed_below given next_place gone_again gone_first confirmation confirmed settled acknowledged after_t3 stopped
data_goes_out = record { phase_is = refl; sent_is = refl; told_is = refl }

pub data_is_told : rows.data_is_told
unfolding after going drained run_from blocks_from lost_from named_below passed_below given next_place gone_again gone_first confirmation confirmed settled acknowledged after_t3 stopped
data_is_told = record { phase_is = refl; sent_is = refl; told_is = refl }

pub data_is_confirmed : rows.data_is_confirmed
unfolding after going drained run_from blocks_from lost_from named_below passed_below given next_place gone_again gone_first confirmation confirmed settled acknowledged after_t3 stopped
data_is_confirmed = record { phase_is = refl; sent_is = refl; told_is = refl }

pub confirmation_frees : rows.confirmation_frees
unfolding after going drained run_from blocks_from lost_from named_below passed_below given next_place gone_again gone_first confirmation confirmed settled acknowledged after_t3 stopped
confirmation_frees = refl

pub data_is_told_once : rows.data_is_told_once
unfolding after going drained run_from blocks_from lost_from named_below passed_below given next_place gone_again gone_first confirmation confirmed settled acknowledged after_t3 stopped
data_is_told_once = record { phase_is = refl; sent_is = refl; told_is = refl }

pub repeated_data_is_confirmed : rows.repeated_data_is_confirmed
unfolding after going drained run_from blocks_from lost_from named_below passed_below given next_place gone_again gone_first confirmation confirmed settled acknowledged after_t3 stopped
repeated_data_is_confirmed = record { phase_is = refl; sent_is = refl; told_is = refl }

pub data_goes_out_again : rows.data_goes_out_again
unfolding after going drained run_from blocks_from lost_from named_below passed_below given next_place gone_again gone_first confirmation confirmed settled acknowledged after_t3 stopped
data_goes_out_again = record { phase_is = refl; sent_is = refl; told_is = refl }

pub confirming_too_much_is_a_violation : rows.confirming_too_much_is_a_violation
unfolding after going drained run_from blocks_from lost_from named_below passed_below given next_place gone_again gone_first confirmation confirmed settled acknowledged after_t3 stopped
confirming_too_much_is_a_violation = record { phase_is = refl; sent_is = refl; told_is = refl }

pub wrong_tag_is_dropped : rows.wrong_tag_is_dropped
unfolding after going drained run_from blocks_from lost_from named_below passed_below given next_place gone_again gone_first confirmation confirmed settled acknowledged after_t3 stopped
wrong_tag_is_dropped = record { phase_is = refl; sent_is = refl; told_is = refl }

pub abort_is_sent : rows.abort_is_sent
unfolding after going drained run_from blocks_from lost_from named_below passed_below given next_place gone_again gone_first confirmation confirmed settled acknowledged after_t3 stopped
abort_is_sent = record { phase_is = refl; sent_is = refl; told_is = refl }

pub abort_is_a_loss : rows.abort_is_a_loss
unfolding after going drained run_from blocks_from lost_from named_below passed_below given next_place gone_again gone_first confirmation confirmed settled acknowledged after_t3 stopped
abort_is_a_loss = record { phase_is = refl; sent_is = refl; told_is = refl }

pub shutdown_is_sent : rows.shutdown_is_sent
unfolding after going drained run_from blocks_from lost_from named_below passed_below given next_place gone_again gone_first confirmation confirmed settled acknowledged after_t3 stopped
shutdown_is_sent = record { phase_is = refl; sent_is = refl; told_is = refl }

pub shutdown_is_a_loss : rows.shutdown_is_a_loss
unfolding after going drained run_from blocks_from lost_from named_below passed_below given next_place gone_again gone_first confirmation confirmed settled acknowledged after_t3 stopped
shutdown_is_a_loss = record { phase_is = refl; sent_is = refl; told_is = refl }

pub shutdown_is_answered : rows.shutdown_is_answered
unfolding after going drained run_from blocks_from lost_from named_below passed_below given next_place gone_again gone_first confirmation confirmed settled acknowledged after_t3 stopped
shutdown_is_answered = record { phase_is = refl; sent_is = refl; told_is = refl }

pub shutdown_is_complete : rows.shutdown_is_complete
unfolding after going drained run_from blocks_from lost_from named_below passed_below given next_place gone_again gone_first confirmation confirmed settled acknowledged after_t3 stopped
shutdown_is_complete = record { phase_is = refl; sent_is = refl; told_is = refl }

pub completion_ends : rows.completion_ends
unfolding after going drained run_from blocks_from lost_from named_below passed_below given next_place gone_again gone_first confirmation confirmed settled acknowledged after_t3 stopped
completion_ends = record { phase_is = refl; sent_is = refl; told_is = refl }

pub both_begin : rows.both_begin
unfolding after going drained run_from blocks_from lost_from named_below passed_below given next_place gone_again gone_first confirmation confirmed settled acknowledged after_t3 stopped
both_begin = record { phase_is = refl; sent_is = refl; told_is = refl }

pub cookie_opens_a_try : rows.cookie_opens_a_try
unfolding after going drained run_from blocks_from lost_from named_below passed_below given next_place gone_again gone_first confirmation confirmed settled acknowledged after_t3 stopped
cookie_opens_a_try = record { phase_is = refl; sent_is = refl; told_is = refl }

pub cookie_goes_out_again : rows.cookie_goes_out_again
unfolding after going drained run_from blocks_from lost_from named_below passed_below given next_place gone_again gone_first confirmation confirmed settled acknowledged after_t3 stopped
cookie_goes_out_again = record { phase_is = refl; sent_is = refl; told_is = refl }

pub cookie_is_too_old : rows.cookie_is_too_old
unfolding after going drained run_from blocks_from lost_from named_below passed_below given next_place gone_again gone_first confirmation confirmed settled acknowledged after_t3 stopped
cookie_is_too_old = record { phase_is = refl; sent_is = refl; told_is = refl }

pub stale_cookie_begins_anew : rows.stale_cookie_begins_anew
unfolding after going drained run_from blocks_from lost_from named_below passed_below given next_place gone_again gone_first confirmation confirmed settled acknowledged after_t3 stopped
stale_cookie_begins_anew = record { phase_is = refl; sent_is = refl; told_is = refl }

pub stale_cookie_ends_the_try : rows.stale_cookie_ends_the_try
unfolding after going drained run_from blocks_from lost_from named_below passed_below given next_place gone_again gone_first confirmation confirmed settled acknowledged after_t3 stopped
stale_cookie_ends_the_try = record { phase_is = refl; sent_is = refl; told_is = refl }

pub failures_count_on : rows.failures_count_on
unfolding after going drained run_from blocks_from lost_from named_below passed_below given next_place gone_again gone_first confirmation confirmed settled acknowledged after_t3 stopped
failures_count_on = record { phase_is = refl; sent_is = refl; told_is = refl }

pub former_try_opens_nothing : rows.former_try_opens_nothing
unfolding after going drained run_from blocks_from lost_from named_below passed_below given next_place gone_again gone_first confirmation confirmed settled acknowledged after_t3 stopped
former_try_opens_nothing = record { phase_is = refl; sent_is = refl; told_is = refl }

pub longest_cookie_is_echoed : rows.longest_cookie_is_echoed
unfolding after going drained run_from blocks_from lost_from named_below passed_below given next_place gone_again gone_first confirmation confirmed settled acknowledged after_t3 stopped
longest_cookie_is_echoed = record { phase_is = refl; sent_is = refl; told_is = refl }

pub longer_cookie_ends_the_try : rows.longer_cookie_ends_the_try
unfolding after going drained run_from blocks_from lost_from named_below passed_below given next_place gone_again gone_first confirmation confirmed settled acknowledged after_t3 stopped
longer_cookie_ends_the_try = record { phase_is = refl; sent_is = refl; told_is = refl }

pub unknown_parameter_is_reported : rows.unknown_parameter_is_reported
unfolding after going drained run_from blocks_from lost_from named_below passed_below given next_place gone_again gone_first confirmation confirmed settled acknowledged after_t3 stopped
unknown_parameter_is_reported = record { phase_is = refl; sent_is = refl; told_is = refl }

pub long_cookie_leaves_no_room : rows.long_cookie_leaves_no_room
unfolding after going drained run_from blocks_from lost_from named_below passed_below given next_place gone_again gone_first confirmation confirmed settled acknowledged after_t3 stopped
long_cookie_leaves_no_room = record { phase_is = refl; sent_is = refl; told_is = refl }

pub unusable_init_ack_ends_the_try : rows.unusable_init_ack_ends_the_try
unfolding after going drained run_from blocks_from lost_from named_below passed_below given next_place gone_again gone_first confirmation confirmed settled acknowledged after_t3 stopped
unusable_init_ack_ends_the_try = record { phase_is = refl; sent_is = refl; told_is = refl }

pub giving_up_is_told : rows.giving_up_is_told
unfolding after going drained run_from blocks_from lost_from named_below passed_below given next_place gone_again gone_first confirmation confirmed settled acknowledged after_t3 stopped
giving_up_is_told = record { phase_is = refl; sent_is = refl; told_is = refl }

pub init_is_answered_anew : rows.init_is_answered_anew
unfolding after going drained run_from blocks_from lost_from named_below passed_below given next_place gone_again gone_first confirmation confirmed settled acknowledged after_t3 stopped
init_is_answered_anew = record { phase_is = refl; sent_is = refl; told_is = refl }

pub heartbeat_is_answered : rows.heartbeat_is_answered
unfolding after going drained run_from blocks_from lost_from named_below passed_below given next_place gone_again gone_first confirmation confirmed settled acknowledged after_t3 stopped
heartbeat_is_answered = record { phase_is = refl; sent_is = refl; told_is = refl }

pub heartbeat_goes_out : rows.heartbeat_goes_out
unfolding after going drained run_from blocks_from lost_from named_below passed_below given next_place gone_again gone_first confirmation confirmed settled acknowledged after_t3 stopped
heartbeat_goes_out = record { phase_is = refl; sent_is = refl; told_is = refl }

pub silence_is_a_loss : rows.silence_is_a_loss
unfolding after going drained run_from blocks_from lost_from named_below passed_below given next_place gone_again gone_first confirmation confirmed settled acknowledged after_t3 stopped
silence_is_a_loss = record { phase_is = refl; sent_is = refl; told_is = refl }

pub answer_ends_the_beat : rows.answer_ends_the_beat
unfolding after going drained run_from blocks_from lost_from named_below passed_below given next_place gone_again gone_first confirmation confirmed settled acknowledged after_t3 stopped
answer_ends_the_beat = refl

pub late_answer_ends_no_beat : rows.late_answer_ends_no_beat
unfolding after going drained run_from blocks_from lost_from named_below passed_below given next_place gone_again gone_first confirmation confirmed settled acknowledged after_t3 stopped
late_answer_ends_no_beat = refl

pub unknown_chunk_is_reported : rows.unknown_chunk_is_reported
unfolding after going drained run_from blocks_from lost_from named_below passed_below given next_place gone_again gone_first confirmation confirmed settled acknowledged after_t3 stopped
unknown_chunk_is_reported = record { phase_is = refl; sent_is = refl; told_is = refl }

pub unknown_chunk_is_passed_over : rows.unknown_chunk_is_passed_over
unfolding after going drained run_from blocks_from lost_from named_below passed_below given next_place gone_again gone_first confirmation confirmed settled acknowledged after_t3 stopped
unknown_chunk_is_passed_over = record { phase_is = refl; sent_is = refl; told_is = refl }

pub unknown_chunk_ends_its_packet : rows.unknown_chunk_ends_its_packet
unfolding after going drained run_from blocks_from lost_from named_below passed_below given next_place gone_again gone_first confirmation confirmed settled acknowledged after_t3 stopped
unknown_chunk_ends_its_packet = record { phase_is = refl; sent_is = refl; told_is = refl }

pub reported_chunk_ends_its_packet : rows.reported_chunk_ends_its_packet
unfolding after going drained run_from blocks_from lost_from named_below passed_below given next_place gone_again gone_first confirmation confirmed settled acknowledged after_t3 stopped
reported_chunk_ends_its_packet = record { phase_is = refl; sent_is = refl; told_is = refl }

pub chunks_behind_one_passed_over_count : rows.chunks_behind_one_passed_over_count
unfolding after going drained run_from blocks_from lost_from named_below passed_below given next_place gone_again gone_first confirmation confirmed settled acknowledged after_t3 stopped
chunks_behind_one_passed_over_count = record { phase_is = refl; sent_is = refl; told_is = refl }

pub chunks_behind_one_reported_count : rows.chunks_behind_one_reported_count
unfolding after going drained run_from blocks_from lost_from named_below passed_below given next_place gone_again gone_first confirmation confirmed settled acknowledged after_t3 stopped
chunks_behind_one_reported_count = record { phase_is = refl; sent_is = refl; told_is = refl }

pub data_without_data_is_a_violation : rows.data_without_data_is_a_violation
unfolding after going drained run_from blocks_from lost_from named_below passed_below given next_place gone_again gone_first confirmation confirmed settled acknowledged after_t3 stopped
data_without_data_is_a_violation = record { phase_is = refl; sent_is = refl; told_is = refl }

pub shutdown_is_pending : rows.shutdown_is_pending
unfolding after going drained run_from blocks_from lost_from named_below passed_below given next_place gone_again gone_first confirmation confirmed settled acknowledged after_t3 stopped
shutdown_is_pending = record { phase_is = refl; sent_is = refl; told_is = refl }

pub shutdown_takes_no_message : rows.shutdown_takes_no_message
unfolding after going drained run_from blocks_from lost_from named_below passed_below given next_place gone_again gone_first confirmation confirmed settled acknowledged after_t3 stopped
shutdown_takes_no_message = refl

pub shutdown_follows_confirmation : rows.shutdown_follows_confirmation
unfolding after going drained run_from blocks_from lost_from named_below passed_below given next_place gone_again gone_first confirmation confirmed settled acknowledged after_t3 stopped
shutdown_follows_confirmation = record { phase_is = refl; sent_is = refl; told_is = refl }

pub shutdown_goes_out_again : rows.shutdown_goes_out_again
unfolding after going drained run_from blocks_from lost_from named_below passed_below given next_place gone_again gone_first confirmation confirmed settled acknowledged after_t3 stopped
shutdown_goes_out_again = record { phase_is = refl; sent_is = refl; told_is = refl }

pub shutdown_guard_ends_it : rows.shutdown_guard_ends_it
unfolding after going drained run_from blocks_from lost_from named_below passed_below given next_place gone_again gone_first confirmation confirmed settled acknowledged after_t3 stopped
shutdown_guard_ends_it = record { phase_is = refl; sent_is = refl; told_is = refl }

pub init_is_answered_by_shutdown_ack : rows.init_is_answered_by_shutdown_ack
unfolding after going drained run_from blocks_from lost_from named_below passed_below given next_place gone_again gone_first confirmation confirmed settled acknowledged after_t3 stopped
init_is_answered_by_shutdown_ack = record { phase_is = refl; sent_is = refl; told_is = refl }

pub shutdown_meets_shutdown : rows.shutdown_meets_shutdown
unfolding after going drained run_from blocks_from lost_from named_below passed_below given next_place gone_again gone_first confirmation confirmed settled acknowledged after_t3 stopped
shutdown_meets_shutdown = record { phase_is = refl; sent_is = refl; told_is = refl }

pub data_with_the_peers_tag_is_dropped : rows.data_with_the_peers_tag_is_dropped
unfolding after going drained run_from blocks_from lost_from named_below passed_below given next_place gone_again gone_first confirmation confirmed settled acknowledged after_t3 stopped
data_with_the_peers_tag_is_dropped = record { phase_is = refl; sent_is = refl; told_is = refl }

pub abort_is_not_answered : rows.abort_is_not_answered
unfolding after going drained run_from blocks_from lost_from named_below passed_below given next_place gone_again gone_first confirmation confirmed settled acknowledged after_t3 stopped
abort_is_not_answered = record { phase_is = refl; sent_is = refl; told_is = refl }

pub completion_stands_alone : rows.completion_stands_alone
unfolding after going drained run_from blocks_from lost_from named_below passed_below given next_place gone_again gone_first confirmation confirmed settled acknowledged after_t3 stopped
completion_stands_alone = record { phase_is = refl; sent_is = refl; told_is = refl }

pub completion_is_not_answered : rows.completion_is_not_answered
unfolding after going drained run_from blocks_from lost_from named_below passed_below given next_place gone_again gone_first confirmation confirmed settled acknowledged after_t3 stopped
completion_is_not_answered = record { phase_is = refl; sent_is = refl; told_is = refl }

pub data_meets_shutdown : rows.data_meets_shutdown
unfolding after going drained run_from blocks_from lost_from named_below passed_below given next_place gone_again gone_first confirmation confirmed settled acknowledged after_t3 stopped
data_meets_shutdown = record { phase_is = refl; sent_is = refl; told_is = refl }

pub t2_begins_anew : rows.t2_begins_anew
unfolding after going drained run_from blocks_from lost_from named_below passed_below given next_place gone_again gone_first confirmation confirmed settled acknowledged after_t3 stopped
t2_begins_anew = refl

pub giving_up_in_cookie_wait : rows.giving_up_in_cookie_wait
unfolding after going drained run_from blocks_from lost_from named_below passed_below given next_place gone_again gone_first confirmation confirmed settled acknowledged after_t3 stopped
giving_up_in_cookie_wait = record { phase_is = refl; sent_is = refl; told_is = refl }

pub giving_up_in_cookie_echoed : rows.giving_up_in_cookie_echoed
unfolding after going drained run_from blocks_from lost_from named_below passed_below given next_place gone_again gone_first confirmation confirmed settled acknowledged after_t3 stopped
giving_up_in_cookie_echoed = record { phase_is = refl; sent_is = refl; told_is = refl }

pub unconfirmed_data_is_a_loss : rows.unconfirmed_data_is_a_loss
unfolding after going drained run_from blocks_from lost_from named_below passed_below given next_place gone_again gone_first confirmation confirmed settled acknowledged after_t3 stopped
unconfirmed_data_is_a_loss = record { phase_is = refl; sent_is = refl; told_is = refl }

pub known_init_is_answered : rows.known_init_is_answered
unfolding after going drained run_from blocks_from lost_from named_below passed_below given next_place gone_again gone_first confirmation confirmed settled acknowledged after_t3 stopped
known_init_is_answered = record { phase_is = refl; sent_is = refl; told_is = refl }

pub cookie_of_both_tags_opens : rows.cookie_of_both_tags_opens
unfolding after going drained run_from blocks_from lost_from named_below passed_below given next_place gone_again gone_first confirmation confirmed settled acknowledged after_t3 stopped
cookie_of_both_tags_opens = record { phase_is = refl; sent_is = refl; told_is = refl }

pub cookie_of_another_peer_opens_a_try : rows.cookie_of_another_peer_opens_a_try
unfolding after going drained run_from blocks_from lost_from named_below passed_below given next_place gone_again gone_first confirmation confirmed settled acknowledged after_t3 stopped
cookie_of_another_peer_opens_a_try = record { phase_is = refl; sent_is = refl; told_is = refl }

pub cookie_of_another_peer_ends_the_try : rows.cookie_of_another_peer_ends_the_try
unfolding after going drained run_from blocks_from lost_from named_below passed_below given next_place gone_again gone_first confirmation confirmed settled acknowledged after_t3 stopped
cookie_of_another_peer_ends_the_try = record { phase_is = refl; sent_is = refl; told_is = refl }

pub usable_init_ack_is_echoed : rows.usable_init_ack_is_echoed
unfolding after going drained run_from blocks_from lost_from named_below passed_below given next_place gone_again gone_first confirmation confirmed settled acknowledged after_t3 stopped
usable_init_ack_is_echoed = record { phase_is = refl; sent_is = refl; told_is = refl }

pub init_ack_without_cookie_ends_the_try : rows.init_ack_without_cookie_ends_the_try
unfolding after going drained run_from blocks_from lost_from named_below passed_below given next_place gone_again gone_first confirmation confirmed settled acknowledged after_t3 stopped
init_ack_without_cookie_ends_the_try = record { phase_is = refl; sent_is = refl; told_is = refl }

pub init_ack_without_tag_ends_the_try : rows.init_ack_without_tag_ends_the_try
unfolding after going drained run_from blocks_from lost_from named_below passed_below given next_place gone_again gone_first confirmation confirmed settled acknowledged after_t3 stopped
init_ack_without_tag_ends_the_try = record { phase_is = refl; sent_is = refl; told_is = refl }

pub unanswered_shutdown_is_a_loss : rows.unanswered_shutdown_is_a_loss
unfolding after going drained run_from blocks_from lost_from named_below passed_below given next_place gone_again gone_first confirmation confirmed settled acknowledged after_t3 stopped
unanswered_shutdown_is_a_loss = record { phase_is = refl; sent_is = refl; told_is = refl }

pub shutdown_ack_meets_shutdown_ack : rows.shutdown_ack_meets_shutdown_ack
unfolding after going drained run_from blocks_from lost_from named_below passed_below given next_place gone_again gone_first confirmation confirmed settled acknowledged after_t3 stopped
shutdown_ack_meets_shutdown_ack = record { phase_is = refl; sent_is = refl; told_is = refl }

pub shutdown_ack_goes_out_again : rows.shutdown_ack_goes_out_again
unfolding after going drained run_from blocks_from lost_from named_below passed_below given next_place gone_again gone_first confirmation confirmed settled acknowledged after_t3 stopped
shutdown_ack_goes_out_again = record { phase_is = refl; sent_is = refl; told_is = refl }

pub unanswered_shutdown_ack_ends_it : rows.unanswered_shutdown_ack_ends_it
unfolding after going drained run_from blocks_from lost_from named_below passed_below given next_place gone_again gone_first confirmation confirmed settled acknowledged after_t3 stopped
unanswered_shutdown_ack_ends_it = record { phase_is = refl; sent_is = refl; told_is = refl }

pub shutdown_waits_for_confirmation : rows.shutdown_waits_for_confirmation
unfolding after going drained run_from blocks_from lost_from named_below passed_below given next_place gone_again gone_first confirmation confirmed settled acknowledged after_t3 stopped
shutdown_waits_for_confirmation = record { phase_is = refl; sent_is = refl; told_is = refl }

pub last_sack_is_followed_by_shutdown_ack : rows.last_sack_is_followed_by_shutdown_ack
unfolding after going drained run_from blocks_from lost_from named_below passed_below given next_place gone_again gone_first confirmation confirmed settled acknowledged after_t3 stopped
last_sack_is_followed_by_shutdown_ack = record { phase_is = refl; sent_is = refl; told_is = refl }

pub shutdown_confirms : rows.shutdown_confirms
unfolding after going drained run_from blocks_from lost_from named_below passed_below given next_place gone_again gone_first confirmation confirmed settled acknowledged after_t3 stopped
shutdown_confirms = record { phase_is = refl; sent_is = refl; told_is = refl }

pub data_behind_shutdown_is_dropped : rows.data_behind_shutdown_is_dropped
unfolding after going drained run_from blocks_from lost_from named_below passed_below given next_place gone_again gone_first confirmation confirmed settled acknowledged after_t3 stopped
data_behind_shutdown_is_dropped = record { phase_is = refl; sent_is = refl; told_is = refl }

pub heartbeat_behind_shutdown_is_answered : rows.heartbeat_behind_shutdown_is_answered
unfolding after going drained run_from blocks_from lost_from named_below passed_below given next_place gone_again gone_first confirmation confirmed settled acknowledged after_t3 stopped
heartbeat_behind_shutdown_is_answered = record { phase_is = refl; sent_is = refl; told_is = refl }

pub data_goes_out_again_behind_shutdown : rows.data_goes_out_again_behind_shutdown
unfolding after going drained run_from blocks_from lost_from named_below passed_below given next_place gone_again gone_first confirmation confirmed settled acknowledged after_t3 stopped
data_goes_out_again_behind_shutdown = record { phase_is = refl; sent_is = refl; told_is = refl }

pub init_behind_shutdown_is_answered : rows.init_behind_shutdown_is_answered
unfolding after going drained run_from blocks_from lost_from named_below passed_below given next_place gone_again gone_first confirmation confirmed settled acknowledged after_t3 stopped
init_behind_shutdown_is_answered = record { phase_is = refl; sent_is = refl; told_is = refl }

pub restart_behind_shutdown_ends_it : rows.restart_behind_shutdown_ends_it
unfolding after going drained run_from blocks_from lost_from named_below passed_below given next_place gone_again gone_first confirmation confirmed settled acknowledged after_t3 stopped
restart_behind_shutdown_ends_it = record { phase_is = refl; sent_is = refl; told_is = refl }

pub abort_behind_shutdown_ends_it : rows.abort_behind_shutdown_ends_it
unfolding after going drained run_from blocks_from lost_from named_below passed_below given next_place gone_again gone_first confirmation confirmed settled acknowledged after_t3 stopped
abort_behind_shutdown_ends_it = record { phase_is = refl; sent_is = refl; told_is = refl }

pub cookie_is_stale_by_a_second : rows.cookie_is_stale_by_a_second
unfolding after going drained run_from blocks_from lost_from named_below passed_below given next_place gone_again gone_first confirmation confirmed settled acknowledged after_t3 stopped
cookie_is_stale_by_a_second = refl

pub cookie_is_stale_by_a_millisecond : rows.cookie_is_stale_by_a_millisecond
unfolding after going drained run_from blocks_from lost_from named_below passed_below given next_place gone_again gone_first confirmation confirmed settled acknowledged after_t3 stopped
cookie_is_stale_by_a_millisecond = refl

pub cookie_lives_to_the_last : rows.cookie_lives_to_the_last
unfolding after going drained run_from blocks_from lost_from named_below passed_below given next_place gone_again gone_first confirmation confirmed settled acknowledged after_t3 stopped
cookie_lives_to_the_last = record { phase_is = refl; sent_is = refl; told_is = refl }

pub answer_from_elsewhere_is_echoed : rows.answer_from_elsewhere_is_echoed
unfolding after going drained run_from blocks_from lost_from named_below passed_below given next_place gone_again gone_first confirmation confirmed settled acknowledged after_t3 stopped
answer_from_elsewhere_is_echoed = record { phase_is = refl; sent_is = refl; told_is = refl }

pub echo_goes_where_init_went : rows.echo_goes_where_init_went
unfolding after going drained run_from blocks_from lost_from named_below passed_below given next_place gone_again gone_first confirmation confirmed settled acknowledged after_t3 stopped
echo_goes_where_init_went = refl

pub acknowledgement_from_elsewhere_opens : rows.acknowledgement_from_elsewhere_opens
unfolding after going drained run_from blocks_from lost_from named_below passed_below given next_place gone_again gone_first confirmation confirmed settled acknowledged after_t3 stopped
acknowledgement_from_elsewhere_opens = record { phase_is = refl; sent_is = refl; told_is = refl }

pub association_goes_on_elsewhere : rows.association_goes_on_elsewhere
unfolding after going drained run_from blocks_from lost_from named_below passed_below given next_place gone_again gone_first confirmation confirmed settled acknowledged after_t3 stopped
association_goes_on_elsewhere = refl

pub init_lists_addresses : rows.init_lists_addresses
unfolding after going drained run_from blocks_from lost_from named_below passed_below given next_place gone_again gone_first confirmation confirmed settled acknowledged after_t3 stopped
init_lists_addresses = refl

pub init_ack_lists_addresses : rows.init_ack_lists_addresses
unfolding after going drained run_from blocks_from lost_from named_below passed_below given next_place gone_again gone_first confirmation confirmed settled acknowledged after_t3 stopped
init_ack_lists_addresses = refl

pub cookie_behind_addresses_is_echoed : rows.cookie_behind_addresses_is_echoed
unfolding after going drained run_from blocks_from lost_from named_below passed_below given next_place gone_again gone_first confirmation confirmed settled acknowledged after_t3 stopped
cookie_behind_addresses_is_echoed = record { phase_is = refl; sent_is = refl; told_is = refl }
