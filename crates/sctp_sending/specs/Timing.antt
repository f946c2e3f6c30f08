-- The round trips as the struct keeps them.
use Rattle.std.specs.Prelude.{◌≤◌, ◌^◌, IfSome}
use Rattle.sctp_sending.specs.declared.round_trips.RoundTrips.TheInside.{Inside}
use Rattle.sctp_sending.specs.RoundTrips.{RoundTrips}

abbrev pub round_trips_in : Inside → RoundTrips
round_trips_in t = record { bounds = t.bounds; measured = t.measured; timeout = t.timeout }

pub record IsBounded (t : Inside) : Type 0 where
  pub measured : IfSome t.measured (λ s. (s.time ≤ t.bounds.most) × (s.variation ≤ t.bounds.most))
  pub timeout : t.timeout ≤ t.bounds.most
  pub initial : t.bounds.initial ≤ t.bounds.most
  pub least : t.bounds.least ≤ t.bounds.most
  pub most : t.bounds.most ≤ 2 ^ 24
