use Rattle.served_link.proofs.Basics.{◌≤◌, length, arith, written_behind}
use Rattle.served_link.proofs.outgoing.Outgoing.write_behind.Goals as goal

pub returns : goal.returns
returns c =
    let o = c.args.self.now in
    let within : o.end ≤ length o.buffer = omega arith in
    rw c.copy_from_slice.ensures.after (written_behind o.buffer c.args.more.now o.start o.end _ (length c.args.more.now) o.ordered within (λ _. length c.args.more.now))
