-- How long an answer is waited for: the retransmission timeout, from measured round trips (RFC 9260 §6.3.1). All times
-- are whole milliseconds.
use Rattle.std.specs.Prelude.{ℕ, ◌+◌, ◌*◌, ◌/◌, Option, Some, None, min, max}
use Rattle.std.specs.Int.{abs_diff}
use Rattle.std.specs.Option.{option_map}
use Rattle.sctp_sending.specs.declared.bounds.Bounds.{Bounds}
use Rattle.sctp_sending.specs.declared.bounds.Smoothed.{Smoothed}

-- the bounds of the timeout, what the round trips came to, and the timeout: RTO
pub record RoundTrips : Type 0 where
  pub bounds : Bounds
  pub measured : Option Smoothed
  pub timeout : ℕ

-- nothing is measured yet
abbrev pub first_round_trips : Bounds → RoundTrips
first_round_trips b = record { bounds = b; measured = None; timeout = b.initial }

-- the smoothed round trip, once one was measured: SRTT
abbrev pub smoothed_round_trip : RoundTrips → Option ℕ
smoothed_round_trip t = option_map (λ s. s.time) t.measured

-- the first measurement (C2), and each later one (C3)
abbrev pub smoothed_by : Option Smoothed → ℕ → Smoothed
smoothed_by None r = record { time = r; variation = r / 2 }
smoothed_by (Some s) r = record {
  time = (7 * s.time + r) / 8;
  variation = (3 * s.variation + abs_diff s.time r) / 4;
}

-- the timeout of what round trips came to, within its bounds (C3, C6, C7); a clock of milliseconds is no finer than one
abbrev pub timeout_of : Bounds → Smoothed → ℕ
timeout_of b s = min (max (s.time + max (4 * s.variation) 1) b.least) b.most

-- a round trip was measured; one that took longer than RTO.Max counts as that
abbrev pub after_measured : RoundTrips → ℕ → RoundTrips
after_measured t r =
    let s = smoothed_by t.measured (min r t.bounds.most) in
    record { bounds = t.bounds; measured = Some s; timeout = timeout_of t.bounds s }

-- the timeout ran out: it doubles, up to RTO.Max (§6.3.3, E2)
abbrev pub backed_off : RoundTrips → RoundTrips
backed_off t = record { bounds = t.bounds; measured = t.measured; timeout = min (2 * t.timeout) t.bounds.most }
