use Rattle.std.proofs.Common.{◌≤◌, arith}
use Rattle.std.proofs.lemmas.List.{length-take-le, take-take}
use Rattle.std.proofs.lemmas.List.Elements.{All-take}
use Rattle.sctp_sending.specs.Outgoing.{octets_of}
use Rattle.sctp_sending.proofs.outbox.Outbox.drop_new.Goals as goal

pub invariant_of-self : goal.invariant_of-self
invariant_of-self c =
    let ring = c.self.inside.ring in
    let went = c.self.inside.went in
    let long = length-take-le went ring c.self.invariant.went in
    record {
      went = rw c.truncate.ensures (omega (arith, long));
      most = rw c.truncate.ensures (omega (arith, long, c.self.invariant.went, c.self.invariant.most));
      short = rw c.truncate.ensures (All-take (λ o. octets_of o ≤ 290) went ring c.self.invariant.short);
      tally = rw (c.truncate.ensures, take-take went went ring (omega arith)) c.self.invariant.tally;
    }
