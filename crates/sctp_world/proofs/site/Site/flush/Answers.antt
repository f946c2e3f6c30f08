use Rattle.std.proofs.Common.{ap, length, reverse}
use Rattle.sctp_rules.specs.Sending.{flush}
use Rattle.sctp_rules.specs.Endpoint.{after}
use Rattle.sctp_world.specs.Kept.{KeptSite}
use Rattle.sctp_world.proofs.Sites.{settled}
use Rattle.sctp_world.proofs.site.Site.flush.Goals as goal

pub returns : goal.returns
unfolding after
returns c =
    let inside : KeptSite = record { endpoint = c.self.inside.endpoint; log = c.self.inside.log; given = reverse c.self.inside.given.items } in
    settled (λ (k : KeptSite). flush k.endpoint.settings c.args.now k.endpoint.state) c.args.self.now inside
    c.begin_lists.new.self c.flush.new.watch c.flush.new.self (length c.told-from.result.now) c.self.view_is c.begin_lists.ensures
    (ap length c.told-from.ensures) c.flush.ensures
