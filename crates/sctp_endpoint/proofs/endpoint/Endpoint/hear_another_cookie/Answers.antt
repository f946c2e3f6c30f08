use Rattle.std.proofs.Common.{◌<◌, ◌-◌, arith}
use Rattle.sctp_bundling.specs.Settings.{address_of}
use Rattle.sctp_endpoint.proofs.Hearing.{stale-late}
use Rattle.sctp_endpoint.proofs.endpoint.Endpoint.hear_another_cookie.Goals as goal

pub returns-then-from-saturating_sub-clause-does : goal.returns-then-from-saturating_sub-clause-does
returns-then-from-saturating_sub-clause-does g c =
    let late : c.args.cookie.now.life < c.args.now - c.args.cookie.now.made = omega (arith, c.from.ensures, c.saturating_sub.ensures, c.if-from-saturating_sub.true) in
    stale-late g.W.Watch.has c.args.watch.now c.tell_stale.new.watch c.args.self.now (address_of c.args.source.now) c.args.now c.args.cookie.now c.staleness.result c.staleness.ensures late c.tell_stale.ensures
