-- The congestion window as the struct keeps it.
use Rattle.std.specs.Prelude.{◌≤◌}
use Rattle.sctp_sending.specs.declared.congestion.Congestion.TheInside.{Inside}
use Rattle.sctp_sending.specs.Congestion.{Congestion, packet_octets, most_window}

abbrev pub congestion_in : Inside → Congestion
congestion_in c =
    record { window = c.window; threshold = c.threshold; summed = c.summed; recovering = c.recovering }

pub record IsWithin (c : Inside) : Type 0 where
  pub least : packet_octets ≤ c.window
  pub most : c.window ≤ most_window
  pub summed : c.summed ≤ most_window
