use Rattle.std.proofs.Common.{ap, length, reverse}
use Rattle.sctp_codec.specs.Reading.{read_packet}
use Rattle.sctp_bundling.specs.Settings.{address_of}
use Rattle.sctp_endpoint.specs.Dispatching.{heard_datagram}
use Rattle.sctp_endpoint.specs.Endpoints.{secrets_of}
use Rattle.sctp_world.specs.Kept.{KeptSite}
use Rattle.sctp_world.proofs.Sites.{settled}
use Rattle.sctp_world.proofs.site.Site.hear.Goals as goal

pub returns : goal.returns
returns c =
    let inside : KeptSite = record { endpoint = c.self.inside.endpoint; log = c.self.inside.log; given = reverse c.self.inside.given.items } in
    settled (λ (k : KeptSite). heard_datagram (read_packet c.args.octets.now) k.endpoint.settings (secrets_of k.endpoint) c.args.now (address_of c.args.source.now) k.endpoint.state) c.args.self.now inside
    c.begin_lists.new.self c.hear.new.watch c.hear.new.self (length c.told-from.result.now) c.self.view_is c.begin_lists.ensures
    (ap length c.told-from.ensures) c.hear.ensures
