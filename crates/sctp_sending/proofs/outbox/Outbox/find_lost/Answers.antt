use Rattle.std.proofs.Common.{◌≡◌, ◌+◌, ◌-◌, sym, ap, ◌∙◌, arith}
use Rattle.sctp_sending.specs.Outgoing.{Outgoing, outgoing_at, lost_from}
use Rattle.sctp_sending.specs.Outbox.{Outbox}
use Rattle.sctp_sending.proofs.Tallying.{lost_here, lost_on, lost_from_nowhere}
use Rattle.sctp_sending.proofs.outbox.Outbox.find_lost.Goals as goal

pub returns-then-is_lost-clause-place : goal.returns-then-is_lost-clause-place
returns-then-is_lost-clause-place c =
    let went = ap (λ (b : Outbox). b.went) c.self.view_is in
    let lost = ap (λ (b : Outbox). (outgoing_at b.out c.loop-place.place).lost) (sym c.self.view_is) ∙ ap (λ (o : Outgoing). o.lost) (sym c.get.ensures) ∙ sym c.is_lost.ensures ∙ c.if-is_lost.true in
    sym (lost_here c.args.self.now.out c.loop-place.place (c.args.self.now.went - c.loop-place.place) (omega (arith, went, c.loop-place-test.true)) lost) ∙ c.loop-place.invariant

pub loop-place-preserved : goal.loop-place-preserved
loop-place-preserved c =
    let went = ap (λ (b : Outbox). b.went) c.self.view_is in
    let lost = ap (λ (b : Outbox). (outgoing_at b.out c.loop-place.place).lost) (sym c.self.view_is) ∙ ap (λ (o : Outgoing). o.lost) (sym c.get.ensures) ∙ sym c.is_lost.ensures ∙ c.if-is_lost.false in
    let less : c.args.self.now.went - (c.loop-place.place + 1) ≡ c.args.self.now.went - c.loop-place.place - 1 = omega arith in
    ap (lost_from c.args.self.now.out (c.loop-place.place + 1)) less
    ∙ sym (lost_on c.args.self.now.out c.loop-place.place (c.args.self.now.went - c.loop-place.place) (omega (arith, went, c.loop-place-test.true)) lost) ∙ c.loop-place.invariant

pub returns-clause-place : goal.returns-clause-place
returns-clause-place c =
    let went = ap (λ (b : Outbox). b.went) c.self.view_is in
    let none : c.args.self.now.went - c.loop-place.place ≡ 0 = omega (arith, went, c.loop-place-test.false) in
    sym (sym c.loop-place.invariant ∙ ap (lost_from c.args.self.now.out c.loop-place.place) none ∙ lost_from_nowhere c.args.self.now.out c.loop-place.place)
