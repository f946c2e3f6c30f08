-- The sender's half of an association, and what each call makes of it (RFC 9260 §6.1, §6.2.1, §6.3, §7.2).
use Rattle.std.specs.Prelude.{ℕ, zero, suc, ◌+◌, ◌-◌, ◌*◌, ◌/◌, ◌%◌, ◌^◌, Bool, true, false, not, ◌&&◌, ◌||◌, List, [], ◌∷◌}
use Rattle.std.specs.Prelude.{◌++◌, length, take, drop, map, sum_by, nat_lt, nat_le, ◌==◌, if◌then◌else◌, Option, Some}
use Rattle.std.specs.Prelude.{None, is_some, min, slice_index, slice_set}
use Rattle.sctp_sending.specs.declared.confirmation.Confirmation.{Confirmation}
use Rattle.sctp_sending.specs.declared.confirmation.Confirmation.TheVariants.{Old, Beyond, Of}
use Rattle.sctp_sending.specs.declared.bounds.Bounds.{Bounds}
use Rattle.sctp_sending.specs.declared.timed.Timed.{Timed}
use Rattle.sctp_sending.specs.RoundTrips.{RoundTrips, first_round_trips, after_measured, backed_off}
use Rattle.sctp_sending.specs.Congestion.{Congestion, first_congestion, grown, after_confirmed, after_loss, after_timeout, after_all}
use Rattle.sctp_sending.specs.Outgoing.{Message, Outgoing, new_outgoing, outgoing_at, octets_of, under_way_of, newly_confirmed_of}
use Rattle.sctp_sending.specs.Outgoing.{gone_out, named_or_not, passed_over, timed_out, tsn_at, ahead_of, lost_from}

pub record Sending : Type 0 where
  -- all that was given and isn't confirmed, in order; the first `went` of them went out
  pub out : List Outgoing
  pub went : ℕ
  -- the TSN of the first of them, or of the next one that is given
  pub first : ℕ
  -- the next number of each stream
  pub sequences : List ℕ
  -- how many octets the peer takes
  pub peer_window : ℕ
  -- how many octets of lost messages go out whatever the congestion window is
  pub burst : ℕ
  pub congestion : Congestion
  pub round_trips : RoundTrips
  pub timed : Option Timed
  -- when T3 runs out, in milliseconds of the endpoint's clock; it runs while something is under way
  pub t3 : Option ℕ
  -- how many messages went out again, up to the largest number of 64 bits
  pub retransmissions : ℕ

-- an association begins: the TSN of the first message, and the octets that the peer takes
abbrev pub first_sending : Bounds → (first peer_window : ℕ) → Sending
first_sending bounds first peer_window = record {
  out = [];
  went = 0;
  first = first;
  sequences = 0 ∷ 0 ∷ [];
  peer_window = peer_window;
  burst = 0;
  congestion = first_congestion peer_window;
  round_trips = first_round_trips bounds;
  timed = None;
  t3 = None;
  retransmissions = 0;
}

-- how many messages an end keeps
abbrev pub most_messages : ℕ
most_messages = 256

-- octets of a message that is sent, at most
abbrev pub most_octets : ℕ
most_octets = 290

-- octets of the chunks of a packet of lost messages that goes out whatever the congestion window is
abbrev pub burst_octets : ℕ
burst_octets = 1188

-- the octets under way
abbrev pub under_way : Sending → ℕ
under_way s = sum_by under_way_of (take s.went s.out)

-- ---- a message is given

-- it gets the next TSN, and the next number of its stream
unfoldable pub given : Sending → Message → Sending
given s message = record s {
  out = s.out ++ new_outgoing message (slice_index s.sequences message.stream) ∷ [];
  sequences = slice_set s.sequences message.stream ((slice_index s.sequences message.stream + 1) % 2 ^ 16);
}

-- the window takes a message, or nothing is under way: then one goes out to probe a window that is shut
abbrev pub finds_window : Sending → ℕ → Bool
finds_window s octets = nat_le octets s.peer_window || (under_way s == 0)

-- less is under way than the congestion window has
abbrev pub has_credit : Sending → Bool
has_credit s = nat_lt (under_way s) s.congestion.window

-- a message that is given now goes out now
unfoldable pub has_room : Sending → Bool
has_room s =
    nat_lt (length s.out) most_messages
    && not (is_some (lost_from s.out 0 s.went))
    && (length s.out == s.went)
    && has_credit s
    && finds_window s most_octets

-- ---- a message goes out

-- the octets of its chunk: header, fields and padding
abbrev pub chunk_octets : ℕ → ℕ
chunk_octets octets = 16 + (octets + 3) / 4 * 4

-- a lost message may go out
abbrev pub may_repeat : Sending → ℕ → Bool
may_repeat s place = nat_le (chunk_octets (octets_of (outgoing_at s.out place))) s.burst || has_credit s

-- a new one may
abbrev pub may_begin : Sending → Bool
may_begin s =
    nat_lt s.went (length s.out) && has_credit s && finds_window s (octets_of (outgoing_at s.out s.went))

-- the index of the message that goes out next: the first lost one, and otherwise the first new one, if it may
abbrev pub next_of : Sending → Option ℕ → Option ℕ
next_of s (Some place) = if may_repeat s place then Some place else None
next_of s None = if may_begin s then Some s.went else None

unfoldable pub next_place : Sending → Option ℕ
next_place s = next_of s (lost_from s.out 0 s.went)

abbrev pub burst_left : (burst octets : ℕ) → ℕ
burst_left burst octets = if nat_le octets burst then burst - octets else burst

-- one message at a time is timed, that goes out for the first time; one that goes out again is no longer timed
abbrev pub timed_from : Option Timed → (place now : ℕ) → Option Timed
timed_from None place now = Some (record { place = place; since = now })
timed_from (Some t) place now = Some t

abbrev pub timed_without : Option Timed → ℕ → Option Timed
timed_without None place = None
timed_without (Some t) place = if t.place == place then None else Some t

-- T3 runs from now on, if it didn't
abbrev pub running : Option ℕ → ℕ → Option ℕ
running None moment = Some moment
running (Some t) moment = Some t

-- the first of all that isn't confirmed goes out again: T3 restarts (§7.2.4, 5)
abbrev pub running_anew : Option ℕ → (place moment : ℕ) → Option ℕ
running_anew timer place moment = if place == 0 then Some moment else running timer moment

-- one retransmission more, if that is still counted
abbrev pub one_retransmission_more : ℕ → ℕ
one_retransmission_more count = min (count + 1) (2 ^ 64 - 1)

-- a lost message goes out again: it is retransmitted
unfoldable pub gone_again : Sending → (place now : ℕ) → Sending
gone_again s place now = record s {
  out = slice_set s.out place (gone_out true (outgoing_at s.out place));
  peer_window = s.peer_window - octets_of (outgoing_at s.out place);
  burst = burst_left s.burst (chunk_octets (octets_of (outgoing_at s.out place)));
  timed = timed_without s.timed place;
  t3 = running_anew s.t3 place (now + s.round_trips.timeout);
  retransmissions = one_retransmission_more s.retransmissions;
}

-- the first new one goes out
unfoldable pub gone_first : Sending → (now : ℕ) → Sending
gone_first s now = record s {
  out = slice_set s.out s.went (gone_out false (outgoing_at s.out s.went));
  went = s.went + 1;
  peer_window = s.peer_window - octets_of (outgoing_at s.out s.went);
  timed = timed_from s.timed s.went now;
  t3 = running s.t3 (now + s.round_trips.timeout);
}

abbrev pub gone : Sending → (place now : ℕ) → Sending
gone s place now = if nat_lt place s.went then gone_again s place now else gone_first s now

-- the next message goes out; if there is none, a burst is over
abbrev pub gone_next : Sending → (now : ℕ) → Option ℕ → Sending
gone_next s now None = record s { burst = 0 }
gone_next s now (Some place) = gone s place now

-- ---- messages are confirmed

-- how many messages a cumulative TSN confirms: Old if it is behind what is confirmed, Beyond if it confirms one that
-- didn't go out
unfoldable pub confirmation : Sending → (cumulative : ℕ) → Confirmation
confirmation s cumulative =
    let count = ahead_of (tsn_at cumulative 1) s.first in
    if nat_le (2 ^ 31) count then Old else if nat_lt s.went count then Beyond else Of count

-- what confirming the first messages measures
abbrev pub timed_behind : Option Timed → ℕ → Option Timed
timed_behind None count = None
timed_behind (Some t) count = if nat_lt t.place count then None else Some (record { place = t.place - count; since = t.since })

abbrev pub measured_in : RoundTrips → Option Timed → (count now : ℕ) → RoundTrips
measured_in r None count now = r
measured_in r (Some t) count now = if nat_lt t.place count then after_measured r (now - t.since) else r

-- the first messages are confirmed: they leave
unfoldable pub confirmed : Sending → (count now : ℕ) → Sending
confirmed s count now = record s {
  out = drop count s.out;
  went = s.went - count;
  first = tsn_at s.first count;
  congestion = after_confirmed s.congestion count;
  round_trips = measured_in s.round_trips s.timed count now;
  timed = timed_behind s.timed count;
}

-- T3 stops if nothing is out now, and restarts if something was confirmed (RFC 9260 §6.3.2, R2 and R3)
unfoldable pub settled : Sending → (count now : ℕ) → Sending
settled s count now =
    if s.went == 0 then record s { t3 = None; congestion = after_all s.congestion }
    else if nat_lt 0 count then record s { t3 = Some (now + s.round_trips.timeout) }
    else s

-- a SHUTDOWN came: its cumulative TSN confirms, and nothing else
abbrev pub after_cumulative : Sending → (now : ℕ) → Confirmation → Sending
after_cumulative s now Old = s
after_cumulative s now Beyond = s
after_cumulative s now (Of count) = settled (confirmed s count now) count now

-- the peer wants no more: what didn't go out yet never does
unfoldable pub stopped : Sending → Sending
stopped s = record s { out = take s.went s.out }

-- ---- messages are named

-- the messages after some indexes were looked at; the octets that were named for the first time; the last index of
-- these
pub record Naming : Type 0 where
  pub out : List Outgoing
  pub octets : ℕ
  pub reach : ℕ

-- whether the message at an index is named by what names offsets from the cumulative TSN. The first one never is
abbrev pub is_named : (ℕ → Bool) → ℕ → Bool
is_named names place = nat_lt 0 place && names (place + 1)

abbrev pub named_one : (ℕ → Bool) → Naming → (place : ℕ) → Naming
named_one names n place =
    let o = outgoing_at n.out place in
    let first_time = is_named names place && not o.named in
    record {
      out = slice_set n.out place (named_or_not (is_named names place) o);
      octets = if first_time then n.octets + octets_of o else n.octets;
      reach = if first_time then place else n.reach;
    }

-- the indexes below one were looked at
unfoldable pub named_below : (ℕ → Bool) → List Outgoing → ℕ → Naming
named_below names out zero = record { out = out; octets = 0; reach = 0 }
named_below names out (suc place) = named_one names (named_below names out place) place

-- the messages after some indexes were passed over, and whether one was lost by this
pub record Passing : Type 0 where
  pub out : List Outgoing
  pub any : Bool

abbrev pub passed_one : Passing → (place : ℕ) → Passing
passed_one p place =
    let o = outgoing_at p.out place in
    record {
      out = slice_set p.out place (passed_over o);
      any = p.any || ((passed_over o).lost && not o.lost);
    }

-- the indexes below one were passed over
unfoldable pub passed_below : List Outgoing → ℕ → Passing
passed_below out zero = record { out = out; any = false }
passed_below out (suc place) = passed_one (passed_below out place) place

-- the message that is timed is named
abbrev pub is_timed_named : List Outgoing → Option Timed → Bool
is_timed_named out None = false
is_timed_named out (Some t) = (outgoing_at out t.place).named

-- if a SACK named it, its round trip is measured
abbrev pub with_named_measured : Sending → (now : ℕ) → Sending
with_named_measured s now =
    let measured = is_timed_named s.out s.timed in
    record s {
      round_trips = if measured then measured_in s.round_trips s.timed s.went now else s.round_trips;
      timed = if measured then None else s.timed;
    }

-- ---- a SACK comes

-- what it makes of the congestion window: a message was lost, or octets were confirmed or named for the first time
-- (§7.2.1, §7.2.2)
abbrev pub congestion_by : Congestion → (lost : Bool) (under_way octets : ℕ) (full : Bool) → Congestion
congestion_by c lost went octets full = if lost then after_loss c went else grown c octets full

-- the messages that are left after it: named or not, and those before the last one named again passed over
abbrev pub naming_of : (ℕ → Bool) → Sending → Naming
naming_of names s = named_below names s.out s.went

abbrev pub passing_of : Naming → Passing
passing_of n = passed_below n.out n.reach

-- a SACK that confirms this many messages, names some, and tells the peer's window
unfoldable pub acknowledged : Sending → (now window count : ℕ) → (ℕ → Bool) → Sending
acknowledged s now window count names =
    let full = nat_le s.congestion.window (under_way s) in
    let left = confirmed s count now in
    let naming = naming_of names left in
    let passing = passing_of naming in
    let octets = sum_by newly_confirmed_of (take count s.out) + naming.octets in
    let measured = is_timed_named passing.out left.timed in
    let after = record left {
      out = passing.out;
      congestion = congestion_by left.congestion passing.any left.went octets full;
      burst = if passing.any then burst_octets else left.burst;
      round_trips = if measured then measured_in left.round_trips left.timed left.went now else left.round_trips;
      timed = if measured then None else left.timed;
    } in
    settled (record after { peer_window = window - under_way after }) count now

-- whether it confirms some, or names one for the first time
abbrev pub makes_progress : Sending → (now count : ℕ) → (ℕ → Bool) → Bool
makes_progress s now count names = nat_lt 0 count || nat_lt 0 (naming_of names (confirmed s count now)).octets

abbrev pub after_sack : Sending → (now window : ℕ) → (ℕ → Bool) → Confirmation → Sending
after_sack s now window names Old = s
after_sack s now window names Beyond = s
after_sack s now window names (Of count) = acknowledged s now window count names

-- ---- T3 runs out

unfoldable pub after_t3 : Sending → (now : ℕ) → Sending
after_t3 s now =
    let waited = backed_off s.round_trips in
    record s {
      out = map timed_out (take s.went s.out) ++ drop s.went s.out;
      burst = burst_octets;
      congestion = after_timeout s.congestion;
      round_trips = waited;
      timed = None;
      t3 = Some (now + waited.timeout);
    }

-- T3 runs out at these moments, one after another
abbrev pub after_each_t3 : List ℕ → Sending → Sending
after_each_t3 [] s = s
after_each_t3 (now ∷ more) s = after_each_t3 more (after_t3 s now)

-- ---- which messages there are

-- the messages that aren't confirmed
abbrev pub messages_of : Sending → List Message
messages_of s = map (λ o. o.message) s.out

-- how many a cumulative TSN confirms
abbrev pub count_of : Confirmation → ℕ
count_of Old = 0
count_of Beyond = 0
count_of (Of count) = count
