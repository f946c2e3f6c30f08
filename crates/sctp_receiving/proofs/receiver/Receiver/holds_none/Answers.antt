use Rattle.std.proofs.Common.{sym, ◌∙◌, ap}
use Rattle.std.specs.Prelude.{ℕ, ◌==◌}
use Rattle.std.proofs.lemmas.Bool.{eqb-true}
use Rattle.sctp_receiving.specs.Room.{receiver_in}
use Rattle.sctp_receiving.proofs.Blocks.{nothing_held}
use Rattle.sctp_receiving.proofs.receiver.Receiver.holds_none.Goals as goal

pub returns-clause-held : goal.returns-clause-held
returns-clause-held c = rw (← c.self.view_is) (ap (λ (n : ℕ). n == 0) c.self.invariant.count)

pub returns-clause-gaps : goal.returns-clause-gaps
returns-clause-gaps c = λ t.
    rw (← c.self.view_is) (sym (nothing_held (receiver_in c.self.inside) (sym c.self.invariant.count ∙ eqb-true c.self.inside.count 0 t)))
