use Rattle.std.proofs.Common.{◌≡◌, ◌≤◌, drop, ap, arith, length-drop}
use Rattle.std.proofs.lemmas.List.Elements.{All-drop}
use Rattle.sctp_sending.specs.Outgoing.{octets_of}
use Rattle.sctp_sending.specs.Outbox.{Outbox}
use Rattle.sctp_sending.proofs.Tallying.{tally-left}
use Rattle.sctp_sending.proofs.outbox.Outbox.confirm.Goals as goal

pub invariant_of-self : goal.invariant_of-self
invariant_of-self c =
    let went = ap (λ (b : Outbox). b.went) c.self.view_is in
    let b : c.args.count ≤ c.self.inside.went = omega (arith, went, c.requires) in
    let left : c.drop_front.new.self ≡ drop c.args.count c.self.inside.ring = c.drop_front.ensures in
    let count = length-drop c.args.count c.self.inside.ring in
    record {
      went = rw left (omega (arith, count, c.self.invariant.went));
      most = rw left (omega (arith, count, c.self.invariant.most));
      short = rw left (All-drop (λ o. octets_of o ≤ 290) c.args.count c.self.inside.ring c.self.invariant.short);
      tally = rw (left, c.leaving-octets.ensures.tally, ← c.self.view_is) (tally-left c.self.inside.ring c.self.inside.went c.args.count b);
    }
