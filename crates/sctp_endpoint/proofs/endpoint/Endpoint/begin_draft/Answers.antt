use Rattle.std.proofs.Common.{ap, ◌∙◌}
use Rattle.sctp_bundling.specs.Bundling.{draft_of}
use Rattle.sctp_bundling.specs.Ways.{Way}
use Rattle.sctp_endpoint.specs.Endpoints.{Endpoint}
use Rattle.sctp_endpoint.specs.Flushing.{way_of_peer}
use Rattle.sctp_endpoint.proofs.endpoint.Endpoint.begin_draft.Goals as goal

pub returns-clause-text : goal.returns-clause-text
returns-clause-text c =
    c.begin_with.ensures.text ∙ ap (λ (w : Way). draft_of w c.self.inside.control) c.requires
    ∙ ap (λ (e : Endpoint). draft_of (way_of_peer c.args.self.now) e.state.association.control) c.self.view_is
