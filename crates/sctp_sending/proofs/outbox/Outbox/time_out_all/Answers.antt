use Rattle.std.proofs.Common.{◌≤◌, length, ap, ◌∙◌, arith}
use Rattle.sctp_sending.specs.Outbox.{Outbox}
use Rattle.sctp_sending.proofs.Timing.{timed_out-more}
use Rattle.sctp_sending.proofs.outbox.Outbox.time_out_all.Goals as goal

pub loop-place-preserved : goal.loop-place-preserved
loop-place-preserved c =
    let m : c.args.self.now.went ≤ length c.args.self.now.out = rw (← c.self.view_is) c.self.invariant.went in
    let went = ap (λ (b : Outbox). b.went) c.self.view_is in
    c.time_out.ensures ∙ timed_out-more c.loop-place.self c.args.self.now c.loop-place.place c.loop-place.invariant (omega (arith, m, went, c.loop-place-test.true))
