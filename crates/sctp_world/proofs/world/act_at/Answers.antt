use Rattle.std.proofs.Common.{ap, refl, ◌∙◌, sym, List, ℕ}
use Rattle.sctp_codec.specs.Reading.{read_packet}
use Rattle.sctp_bundling.specs.Settings.{address_of}
use Rattle.sctp_endpoint.specs.Endpoints.{secrets_of}
use Rattle.sctp_endpoint.specs.Dispatching.{heard_datagram}
use Rattle.sctp_world.specs.declared.step.Doing.{Doing}
use Rattle.sctp_world.specs.Kept.{KeptSite, with_done}
use Rattle.sctp_world.specs.Doing.{kept_did}
use Rattle.sctp_world.proofs.Sites.{keeps-so}
use Rattle.sctp_world.proofs.world.act_at.Goals as goal

pub returns-else-place-sent-clause-did : goal.returns-else-place-sent-clause-did
returns-else-place-sent-clause-did c = λ e.
    let k : KeptSite = c.args.site.now in
    let heard : List ℕ → KeptSite = λ o. with_done (heard_datagram (read_packet o) k.endpoint.settings (secrets_of k.endpoint) c.args.now (address_of c.in-Hear.source) k.endpoint.state) k.given k in
    keeps-so k k (heard c.octets_at.result.now) (kept_did c.args.what c.args.now c.args.other.now k) c.hear.new.self c.hear.ensures
    (ap heard c.octets_at.ensures ∙ ap (λ (d : Doing). kept_did d c.args.now c.args.other.now k) (sym c.in-Hear.is)) refl
