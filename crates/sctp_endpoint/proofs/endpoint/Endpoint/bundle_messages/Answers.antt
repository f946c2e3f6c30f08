use Rattle.std.proofs.Common.{ap, sym, ◌∙◌}
use Rattle.sctp_rules.specs.Data.{takes_sack}
use Rattle.sctp_endpoint.specs.Endpoints.{Endpoint}
use Rattle.sctp_endpoint.proofs.Flushing.{data-none}
use Rattle.sctp_endpoint.proofs.endpoint.Endpoint.bundle_messages.Goals as goal

pub returns-else-takes_sack-clause-bundled : goal.returns-else-takes_sack-clause-bundled
returns-else-takes_sack-clause-bundled g c =
    data-none g.W.Watch.has c.args.watch.now c.args.draft.now c.args.now c.args.self.now.state.association
    (ap (λ (e : Endpoint). takes_sack e.state.association.phase) (sym c.self.view_is) ∙ sym c.takes_sack.ensures ∙ c.if-takes_sack.false)
