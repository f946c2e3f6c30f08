use Rattle.std.proofs.Common.{length, sym, ap, ◌∙◌}
use Rattle.sctp_sending.specs.Outbox.{Outbox}
use Rattle.sctp_sending.specs.Sending.{Passing}
use Rattle.sctp_sending.proofs.Naming.{passed_below-none, passed-more, any-more, length-passed}
use Rattle.sctp_sending.proofs.outbox.Outbox.pass_over_first.Goals as goal

pub loop-place-init : goal.loop-place-init
loop-place-init c =
    let first = passed_below-none c.args.self.now.out in
    record {
      any = ap (λ (p : Passing). p.any) (sym first);
      outbox = ap (λ (p : Passing). record { out = p.out; went = c.args.self.now.went }) (sym first);
    }

pub loop-place-preserved : goal.loop-place-preserved
loop-place-preserved c = record {
  any = any-more c.loop-place.self c.args.self.now c.loop-place.place c.loop-place.any c.pass_over_one-any.result c.loop-place.invariant.outbox c.loop-place.invariant.any c.pass_over_one-any.ensures.any;
  outbox = c.pass_over_one-any.ensures.outbox ∙ passed-more c.loop-place.self c.args.self.now c.loop-place.place c.loop-place.invariant.outbox;
}

pub returns-clause-count : goal.returns-clause-count
returns-clause-count c =
    ap (λ (b : Outbox). length b.out) c.loop-place.invariant.outbox ∙ length-passed c.args.self.now.out c.loop-place.place
