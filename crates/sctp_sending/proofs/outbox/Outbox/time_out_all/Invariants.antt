-- the messages before this index timed out
use Rattle.std.proofs.Common.{◌≡◌, ◌++◌, take, drop, map}
use Rattle.sctp_sending.specs.Outgoing.{timed_out}
use Rattle.sctp_sending.proofs.outbox.Outbox.time_out_all.Given as goal

abbrev pub invariant-loop-place : goal.invariant-loop-place
invariant-loop-place l = l.self ≡ record {
  out = map timed_out (take l.place l.fn.self.out) ++ drop l.place l.fn.self.out;
  went = l.fn.self.went;
}
