-- the first messages so far, and the others
use Rattle.std.proofs.Common.{◌≡◌, ◌*◌, ◌≤◌, take, drop}
use Rattle.sctp_sending.specs.Outbox.{newly_confirmed_in}
use Rattle.sctp_sending.specs.Tallies.{tally_of}
use Rattle.sctp_sending.proofs.outbox.Outbox.leaving.Given as goal

abbrev pub invariant-loop-place : goal.invariant-loop-place
invariant-loop-place l = record {
  octets : l.octets ≡ newly_confirmed_in l.self l.place;
  tally : l.tally ≡ tally_of (drop l.place (take l.self.went l.self.out));
  most : l.octets ≤ l.place * 290;
}
