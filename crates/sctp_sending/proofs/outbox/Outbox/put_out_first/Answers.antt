use Rattle.std.proofs.Common.{arith}
use Rattle.sctp_sending.proofs.Tallying.{tally-small}
use Rattle.sctp_sending.proofs.outbox.Outbox.put_out_first.Goals as goal

pub with_new-self-inside-requires-clause-under_way : goal.with_new-self-inside-requires-clause-under_way
with_new-self-inside-requires-clause-under_way c =
    let small = tally-small c.self.inside.ring c.self.inside.went c.self.inside.tally c.self.invariant.tally c.self.invariant.short c.self.invariant.most in
    omega (arith, small.under_way)

pub with_new-self-inside-requires-clause-named : goal.with_new-self-inside-requires-clause-named
with_new-self-inside-requires-clause-named c =
    let small = tally-small c.self.inside.ring c.self.inside.went c.self.inside.tally c.self.invariant.tally c.self.invariant.short c.self.invariant.most in
    omega (arith, small.named)
