use Rattle.std.proofs.Common.{◌≡◌, ◌<◌, length, ap, refl, ◌∙◌, arith}
use Rattle.std.proofs.lemmas.List.{length-set}
use Rattle.sctp_sending.specs.declared.tally.Tally.{Tally}
use Rattle.sctp_sending.specs.Outgoing.{outgoing_at, timed_out}
use Rattle.sctp_sending.specs.Outbox.{Outbox}
use Rattle.sctp_sending.proofs.Tallying.{renewed, tally-small, short-changed}
use Rattle.sctp_sending.proofs.outbox.Outbox.time_out.Goals as goal

pub with-self-inside-requires-clause-under_way : goal.with-self-inside-requires-clause-under_way
with-self-inside-requires-clause-under_way c =
    let small = tally-small c.self.inside.ring c.self.inside.went c.self.inside.tally c.self.invariant.tally c.self.invariant.short c.self.invariant.most in
    omega (arith, small.under_way, ap (λ (t : Tally). t.under_way) c.without-self-inside.ensures)

pub with-self-inside-requires-clause-lost : goal.with-self-inside-requires-clause-lost
with-self-inside-requires-clause-lost c =
    let small = tally-small c.self.inside.ring c.self.inside.went c.self.inside.tally c.self.invariant.tally c.self.invariant.short c.self.invariant.most in
    omega (arith, small.lost, ap (λ (t : Tally). t.lost) c.without-self-inside.ensures)

pub with-self-inside-requires-clause-named : goal.with-self-inside-requires-clause-named
with-self-inside-requires-clause-named c =
    let small = tally-small c.self.inside.ring c.self.inside.went c.self.inside.tally c.self.invariant.tally c.self.invariant.short c.self.invariant.most in
    omega (arith, small.named, ap (λ (t : Tally). t.named) c.without-self-inside.ensures)

pub invariant_of-self : goal.invariant_of-self
invariant_of-self c =
    let old = c.self.inside.ring in
    let new = c.time_out.new.self in
    let went = ap (λ (b : Outbox). b.went) c.self.view_is in
    let b : c.args.place < c.self.inside.went = omega (arith, went, c.requires) in
    let long : length new ≡ length old = ap length c.time_out.ensures ∙ length-set old c.args.place ((timed_out) (outgoing_at old c.args.place)) in
    record {
      went = omega (arith, long, c.self.invariant.went);
      most = omega (arith, long, c.self.invariant.most);
      short = short-changed old new c.args.place (timed_out) (λ o. refl) (omega (arith, b, c.self.invariant.went)) c.time_out.ensures c.self.invariant.short;
      tally = renewed old new c.self.inside.went c.args.place ((timed_out) (outgoing_at old c.args.place)) c.get.result.now c.get-2.result.now c.self.inside.tally c.without-self-inside.result c.with-self-inside.result b c.self.invariant.went c.time_out.ensures c.get.ensures c.get-2.ensures c.self.invariant.tally c.without-self-inside.ensures c.with-self-inside.ensures;
    }
