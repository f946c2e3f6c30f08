use Rattle.served_link.proofs.Basics.{ℕ, arith, length-take, length-drop, consumed}
use Rattle.served_link.proofs.outgoing.Outgoing.advance.Goals as goal

pub returns : goal.returns
returns c =
    let o = c.args.self.now in
    consumed o.buffer o.start o.end c.args.count (omega (arith, length-take {A = ℕ}, length-drop {A = ℕ}))
