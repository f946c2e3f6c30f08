-- The sender's half as the struct keeps it.
use Rattle.std.specs.Prelude.{◌<◌, ◌≤◌, length, IfSome}
use Rattle.sctp_sending.specs.declared.sender.Sender.TheInside.{Inside}
use Rattle.sctp_sending.specs.Sending.{Sending}

abbrev pub sending_in : Inside → Sending
sending_in s = record {
  out = s.outbox.out;
  went = s.outbox.went;
  first = s.first;
  sequences = s.sequences;
  peer_window = s.peer_window;
  burst = s.burst;
  congestion = s.congestion;
  round_trips = s.round_trips;
  timed = s.timed;
  t3 = s.t3;
  retransmissions = s.retransmissions;
}

pub record IsSending (s : Inside) : Type 0 where
  pub went : s.outbox.went ≤ length s.outbox.out
  pub most : length s.outbox.out ≤ 256
  pub timed : IfSome s.timed (λ t. t.place < s.outbox.went)
