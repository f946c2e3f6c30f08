use Rattle.sctp_bundling.specs.Settings.{address_of}
use Rattle.sctp_endpoint.proofs.Hearing.{lost-restarted}
use Rattle.sctp_endpoint.proofs.endpoint.Endpoint.lose_restarted.Goals as goal

pub returns : goal.returns
returns g c = lost-restarted g.W.Watch.has c.args.watch.now c.end_with.new.watch c.tell_stale.new.watch c.args.self.now c.end_with.new.self (address_of c.args.source.now) c.args.cookie.now c.end_with.ensures c.tell_stale.ensures
