use Rattle.std.proofs.Common.{◌≡◌, ◌+◌, ap, ◌∙◌, ◌||◌, ◌&&◌, leb, ltb, ℕ, Bool, arith}
use Rattle.sctp_sending.specs.Gaps.{marked}
use Rattle.sctp_sending.proofs.Naming.{ltb_next}
use Rattle.sctp_sending.proofs.marks.mark_between.Goals as goal

pub returns : goal.returns
returns c = λ a.
    let done : c.loop-ahead.ahead ≡ c.args.end + 1 = omega (arith, c.loop-ahead.invariant.most, c.loop-ahead-test.false) in
    c.loop-ahead.invariant.so_far a ∙ ap (λ (n : ℕ). marked c.args.marks.now a || (leb c.args.start a && ltb a n)) done
    ∙ ap (λ (b : Bool). marked c.args.marks.now a || (leb c.args.start a && b)) (ltb_next a c.args.end)
