-- the messages before this index were passed over
use Rattle.std.proofs.Common.{◌≡◌}
use Rattle.sctp_sending.specs.Sending.{passed_below}
use Rattle.sctp_sending.proofs.outbox.Outbox.pass_over_first.Given as goal

abbrev pub invariant-loop-place : goal.invariant-loop-place
invariant-loop-place l = record {
  any : l.any ≡ (passed_below l.fn.self.out l.place).any;
  outbox : l.self ≡ record { out = (passed_below l.fn.self.out l.place).out; went = l.fn.self.went };
}
