use Rattle.std.proofs.Common.{◌≤◌, length, arith}
use Rattle.m2pa_codec.proofs.Windows.{written_behind}
use Rattle.m2pa_codec.proofs.window.Window.write_behind.Goals as goal

pub returns : goal.returns
returns c =
    let w = c.args.self.now in
    let within : w.end ≤ length w.octets = omega arith in
    rw c.copy_from_slice.ensures.after (written_behind w.octets c.args.more.now w.start w.end _ (length c.args.more.now) w.ordered within (λ _. length c.args.more.now))
