use Rattle.std.proofs.Common.{sym, ap, ◌∙◌}
use Rattle.sctp_sending.specs.declared.tally.Tally.{Tally}
use Rattle.sctp_sending.proofs.Tallying.{none_lost}
use Rattle.sctp_sending.proofs.outbox.Outbox.first_lost.Goals as goal

pub returns-then-self-eq0-clause-place : goal.returns-then-self-eq0-clause-place
returns-then-self-eq0-clause-place c =
    rw (← c.self.view_is) (none_lost c.self.inside.ring c.self.inside.went c.self.invariant.went (sym (ap (λ (t : Tally). t.lost) c.self.invariant.tally) ∙ c.if-self-eq0.true))
