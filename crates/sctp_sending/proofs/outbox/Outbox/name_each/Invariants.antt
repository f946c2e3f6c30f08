-- the messages before this index were named or not
use Rattle.std.proofs.Common.{◌≡◌, ◌*◌, ◌≤◌}
use Rattle.sctp_sending.specs.Gaps.{marked}
use Rattle.sctp_sending.specs.Sending.{named_below}
use Rattle.sctp_sending.proofs.outbox.Outbox.name_each.Given as goal

abbrev pub invariant-loop-place : goal.invariant-loop-place
invariant-loop-place l = record {
  octets : l.named.octets ≡ (named_below (marked l.fn.marks) l.fn.self.out l.place).octets;
  reach : l.named.reach ≡ (named_below (marked l.fn.marks) l.fn.self.out l.place).reach;
  outbox : l.self ≡ record { out = (named_below (marked l.fn.marks) l.fn.self.out l.place).out; went = l.fn.self.went };
  most : l.named.octets ≤ l.place * 290;
  within : l.named.reach ≤ l.place;
}
