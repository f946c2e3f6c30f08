-- Rows worked by hand from RFC 9260, at one sender's half: round trips (§6.3.1), T3 (§6.3.2, §6.3.3), windows (§6.1,
-- §6.2.1), the congestion window (§7.2), gap blocks (§3.3.4) and fast retransmission (§7.2.4). Times are milliseconds.
use Rattle.std.specs.Prelude.{◌≡◌, ℕ, zero, suc, Bool, true, false, List, [], ◌∷◌, map, Some, None}
use Rattle.sctp_codec.specs.Packets.{BlockValue}
use Rattle.sctp_sending.specs.declared.bounds.Bounds.{Bounds}
use Rattle.sctp_sending.specs.RoundTrips.{RoundTrips, first_round_trips, after_measured, backed_off}
use Rattle.sctp_sending.specs.Congestion.{Congestion, first_congestion, grown, after_loss, after_timeout}
use Rattle.sctp_sending.specs.Outgoing.{Message, Outgoing}
use Rattle.sctp_sending.specs.Sending.{Sending, first_sending, given, next_place, gone_next, confirmation, after_t3}
use Rattle.sctp_sending.specs.Acknowledging.{acknowledged_by}

-- ---- round trips

-- RTO.Initial and RTO.Max of §16, and a small RTO.Min
abbrev pub wide : Bounds
wide = record { initial = 1000; least = 1; most = 60000 }

abbrev pub measured_so : (time variation timeout : ℕ) → RoundTrips
measured_so time variation timeout =
    record { bounds = wide; measured = Some (record { time = time; variation = variation }); timeout = timeout }

-- C2: SRTT = 240, RTTVAR = 240 / 2, RTO = 240 + 4 · 120
abbrev pub first_measurement : Type 0
first_measurement = after_measured (first_round_trips wide) 240 ≡ measured_so 240 120 720

-- C3: RTTVAR = 3/4 · 120 + 1/4 · |240 - 400|, by the former SRTT; SRTT = 7/8 · 240 + 1/8 · 400; RTO = 260 + 4 · 130
abbrev pub later_measurement : Type 0
later_measurement = after_measured (measured_so 240 120 720) 400 ≡ measured_so 260 130 780

-- C6: RTO.Min, the 1,000 of §16; C7: RTO.Max, where SRTT + 4 · RTTVAR = 24000 + 4 · 12000
abbrev pub as_standard : Bounds
as_standard = record { initial = 1000; least = 1000; most = 60000 }

abbrev pub no_less_than_least : Type 0
no_less_than_least = (after_measured (first_round_trips as_standard) 240).timeout ≡ 1000

abbrev pub no_more_than_most : Type 0
no_more_than_most = (after_measured (first_round_trips as_standard) 24000).timeout ≡ 60000

-- E2: RTO doubles, up to RTO.Max
abbrev pub timeout_doubles : Type 0
timeout_doubles = backed_off (measured_so 240 120 720) ≡ measured_so 240 120 1440

abbrev pub timeout_doubles_up_to_most : Type 0
timeout_doubles_up_to_most = backed_off (measured_so 240 120 40000) ≡ measured_so 240 120 60000

-- ---- the congestion window: cwnd, ssthresh and partial_bytes_acked, outside of fast recovery. A packet has 1,140
-- octets

abbrev pub at : (window threshold summed : ℕ) → Congestion
at window threshold summed =
    record { window = window; threshold = threshold; summed = summed; recovering = 0 }

-- §7.2.1: min(4 · 1140, max(2 · 1140, 4404))
abbrev pub window_at_first : Type 0
window_at_first = first_congestion 65536 ≡ at 4404 65536 0

-- §7.2.1, slow start, also where cwnd = ssthresh: by what was confirmed, a packet at most, and only if cwnd was full
abbrev pub slow_start : Type 0
slow_start = grown (at 4404 65536 0) 580 true ≡ at 4984 65536 0

abbrev pub slow_start_by_a_packet : Type 0
slow_start_by_a_packet = grown (at 4560 4560 0) 2900 true ≡ at 5700 4560 0

abbrev pub slow_start_if_full : Type 0
slow_start_if_full = grown (at 4404 65536 0) 580 false ≡ at 4404 65536 0

-- also of a window beyond 65,535 octets
abbrev pub slow_start_of_a_large_window : Type 0
slow_start_of_a_large_window = grown (at 65536 131072 0) 1160 true ≡ at 66676 131072 0

-- §7.2.2: partial_bytes_acked counts; once there is a whole cwnd of it, that is taken off, and cwnd has a packet more
abbrev pub avoidance_counts : Type 0
avoidance_counts = grown (at 6000 4560 2900) 2900 true ≡ at 6000 4560 5800

abbrev pub avoidance_grows : Type 0
avoidance_grows = grown (at 6000 4560 5800) 580 true ≡ at 7140 4560 380

-- but cwnd wasn't full: partial_bytes_acked is set to cwnd
abbrev pub avoidance_if_full : Type 0
avoidance_if_full = grown (at 6000 4560 5800) 580 false ≡ at 6000 4560 6000

-- §7.2.4: ssthresh = cwnd = max(cwnd / 2, 4 · 1140), and fast recovery lasts until the 7 messages are confirmed
abbrev pub recovering : (window threshold count : ℕ) → Congestion
recovering window threshold count =
    record { window = window; threshold = threshold; summed = 0; recovering = count }

abbrev pub loss_halves : Type 0
loss_halves = after_loss (at 20000 65536 300) 7 ≡ recovering 10000 10000 7

abbrev pub loss_leaves_four_packets : Type 0
loss_leaves_four_packets = after_loss (at 4404 65536 300) 7 ≡ recovering 4560 4560 7

-- in fast recovery cwnd stays
abbrev pub recovery_halves_once : Type 0
recovery_halves_once = after_loss (recovering 10000 10000 7) 9 ≡ recovering 10000 10000 7

abbrev pub recovery_grows_nothing : Type 0
recovery_grows_nothing = grown (recovering 10000 10000 7) 580 true ≡ recovering 10000 10000 7

-- §7.2.3: T3 ran out: ssthresh the same, and cwnd = 1140
abbrev pub timeout_leaves_one_packet : Type 0
timeout_leaves_one_packet = after_timeout (at 20000 65536 300) ≡ at 1140 10000 0

abbrev pub timeout_of_a_small_window : Type 0
timeout_of_a_small_window = after_timeout (at 4404 65536 300) ≡ at 1140 4560 0

-- ---- messages of four octets, the first of which has the TSN 13

abbrev pub message : Message
message = record { stream = 1; protocol = 5; octets = 1 ∷ 2 ∷ 3 ∷ 4 ∷ [] }

-- the next one goes out, if it may
abbrev pub goes_out : (now : ℕ) → Sending → Sending
goes_out now s = gone_next s now (next_place s)

-- this many are given, and go out
abbrev pub sent : (count now : ℕ) → Sending → Sending
sent zero now s = s
sent (suc count) now s = sent count now (goes_out now (given s message))

abbrev pub begun : (peer_window : ℕ) → Sending
begun peer_window = first_sending as_standard 13 peer_window

-- TSNs 13 to 17, at 0 ms
abbrev pub five : Sending
five = sent 5 0 (begun 65536)

abbrev pub block : (start end : ℕ) → BlockValue
block start end = record { start = start; end = end }

-- a SACK comes
abbrev pub hears : (now window cumulative : ℕ) → List BlockValue → Sending → Sending
hears now window cumulative blocks s = acknowledged_by (confirmation s cumulative) now window blocks s

abbrev pub named_of : Outgoing → Bool
named_of o = o.named

abbrev pub lost_of : Outgoing → Bool
lost_of o = o.lost

-- ---- gap blocks

-- the example of §3.3.4: cumulative TSN 12, a window of 4,660, blocks 2 to 3 and 5 to 5: of 14, 15 and 17
abbrev pub example : Sending
example = hears 10 4660 12 (block 2 3 ∷ block 5 5 ∷ []) five

abbrev pub blocks_are_offsets : Type 0
blocks_are_offsets = map named_of example.out ≡ false ∷ true ∷ true ∷ false ∷ true ∷ []

-- §6.2.1 B, D: what goes out is taken off the peer's window; a SACK's window is less what is under way, here 13 and 16
abbrev pub window_shrinks : Type 0
window_shrinks = five.peer_window ≡ 65516

abbrev pub window_is_less_what_is_under_way : Type 0
window_is_less_what_is_under_way = example.peer_window ≡ 4652

-- §6.1 A: into a window that is shut one message goes out, the next one once that is confirmed
abbrev pub probes : Sending
probes = sent 2 0 (begun 0)

abbrev pub shut_window_is_probed : Type 0
shut_window_is_probed = probes.went ≡ 1

abbrev pub shut_window_is_probed_again : Type 0
shut_window_is_probed_again = next_place (hears 10 0 13 [] probes) ≡ Some 0

-- ---- fast retransmission (§7.2.4)

abbrev pub reported_once : Sending
reported_once = hears 100 65536 12 (block 2 2 ∷ []) (sent 2 0 five)

abbrev pub reported_twice : Sending
reported_twice = hears 200 65536 12 (block 2 2 ∷ block 4 4 ∷ []) reported_once

abbrev pub reported_thrice : Sending
reported_thrice = hears 300 65536 12 (block 2 2 ∷ block 4 5 ∷ []) reported_twice

-- TSN 13 is missing for the second time, and for the third time; 15 for the first time, and for the second time
abbrev pub second_report_retransmits_nothing : Type 0
second_report_retransmits_nothing = next_place reported_twice ≡ None

abbrev pub third_report_retransmits : Type 0
third_report_retransmits =
    map lost_of reported_thrice.out ≡ true ∷ false ∷ false ∷ false ∷ false ∷ false ∷ false ∷ []

abbrev pub retransmission_goes_first : Type 0
retransmission_goes_first = next_place (given reported_thrice message) ≡ Some 0

abbrev pub retransmission_halves : Type 0
retransmission_halves = reported_thrice.congestion ≡ recovering 4560 4560 7

-- a SACK that comes again names nothing for the first time, and reports nothing missing
abbrev pub same_report : Sending → Sending
same_report s = hears 200 65536 12 (block 2 2 ∷ []) s

abbrev pub report_counts_once : Type 0
report_counts_once = next_place (same_report (same_report (same_report reported_once))) ≡ None

-- rule 5: T3 restarts as TSN 13, the first outstanding one, goes out again; not so for 15, missing for the third time
abbrev pub retransmitted : Sending
retransmitted = goes_out 350 reported_thrice

abbrev pub retransmission_restarts_t3 : Type 0
retransmission_restarts_t3 = retransmitted.t3 ≡ Some 1350

abbrev pub reported_again : Sending
reported_again = hears 400 65536 12 (block 2 2 ∷ block 4 6 ∷ []) retransmitted

abbrev pub another_goes_out_again : Type 0
another_goes_out_again = next_place reported_again ≡ Some 2

abbrev pub another_leaves_t3 : Type 0
another_leaves_t3 = (goes_out 450 reported_again).t3 ≡ Some 1350

-- §7.2.2: what a gap block names for the first time counts, though the cumulative TSN stays: two messages
abbrev pub named_octets_count : Type 0
named_octets_count =
    (hears 10 65536 12 (block 2 3 ∷ []) (record five { congestion = at 6000 4560 300 })).congestion ≡ at 6000 4560 308

-- and once all is confirmed partial_bytes_acked is 0
abbrev pub nothing_is_summed_at_the_end : Type 0
nothing_is_summed_at_the_end =
    (hears 10 65536 17 [] (record five { congestion = at 6000 4560 300 })).congestion ≡ at 6000 4560 0

-- ---- T3 (§6.3.2)

-- R1: it starts, RTO long; another message doesn't restart it
abbrev pub t3_starts : Type 0
t3_starts = (sent 1 400 five).t3 ≡ Some 1000

-- R3: the earliest outstanding TSN is confirmed. The round trip took 500: RTO is 500 + 4 · 250
abbrev pub t3_restarts : Type 0
t3_restarts = (hears 500 65536 13 [] five).t3 ≡ Some 2000

-- R2: nothing is outstanding
abbrev pub t3_stops : Type 0
t3_stops = (hears 500 65536 17 [] five).t3 ≡ None

-- a SACK that confirms nothing leaves it, whatever its blocks name
abbrev pub t3_stays : Type 0
t3_stays = (hears 500 65536 12 (block 2 3 ∷ []) five).t3 ≡ Some 1000

-- §6.3.3: T3 runs out at 1000: RTO doubles, all that is outstanding goes out again, and T3 starts
abbrev pub timed_out : Sending
timed_out = after_t3 five 1000

abbrev pub outstanding_is_lost : Type 0
outstanding_is_lost = map lost_of timed_out.out ≡ true ∷ true ∷ true ∷ true ∷ true ∷ []

abbrev pub t3_starts_again : Type 0
t3_starts_again = (goes_out 1010 timed_out).t3 ≡ Some 3010

-- ---- retransmissions are counted (§6.3.3, §7.2.4)

-- messages that go out for the first time count nothing, and nor does a message that is lost, until it goes out again
abbrev pub first_transmissions_count_nothing : Type 0
first_transmissions_count_nothing = (sent 2 0 five).retransmissions ≡ 0

abbrev pub losses_count_nothing : Type 0
losses_count_nothing = timed_out.retransmissions ≡ 0

-- by T3: TSN 13 goes out again
abbrev pub retransmission_by_t3_counts : Type 0
retransmission_by_t3_counts = (goes_out 1010 timed_out).retransmissions ≡ 1

-- fast: TSN 13 goes out again, and then TSN 15
abbrev pub fast_retransmission_counts : Type 0
fast_retransmission_counts = retransmitted.retransmissions ≡ 1

abbrev pub each_retransmission_counts : Type 0
each_retransmission_counts = (goes_out 450 reported_again).retransmissions ≡ 2

-- a SACK that confirms it leaves the count
abbrev pub confirmation_leaves_the_count : Type 0
confirmation_leaves_the_count = (hears 1100 65536 17 [] (goes_out 1010 timed_out)).retransmissions ≡ 1

-- ---- Karn's rule (§6.3.1 C5): what went out twice measures nothing

abbrev pub one_round_trip_is_measured : Type 0
one_round_trip_is_measured =
    (hears 600 65536 13 [] five).round_trips
    ≡ record { bounds = as_standard; measured = Some (record { time = 600; variation = 300 }); timeout = 1800 }

abbrev pub timed_out_measures_nothing : Type 0
timed_out_measures_nothing =
    (hears 1100 65536 17 [] (goes_out 1010 timed_out)).round_trips
    ≡ record { bounds = as_standard; measured = None; timeout = 2000 }

abbrev pub retransmitted_measures_nothing : Type 0
retransmitted_measures_nothing = (hears 500 65536 13 [] retransmitted).round_trips ≡ first_round_trips as_standard
