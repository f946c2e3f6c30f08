use Rattle.std.proofs.Common.{ap, ◌∙◌}
use Rattle.sctp_endpoint.specs.Endpoints.{Endpoint}
use Rattle.sctp_endpoint.specs.Flushing.{way_to}
use Rattle.sctp_endpoint.proofs.endpoint.Endpoint.turn_draft.Goals as goal

pub returns : goal.returns
returns c =
    c.turn.ensures ∙ c.way.ensures
    ∙ ap (λ (e : Endpoint). way_to c.args.self.now.settings e.state.association.address e.state.association.far_tag) c.self.view_is
