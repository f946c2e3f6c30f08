use Rattle.std.proofs.Common.{◌≡◌, ap, sym, ◌∙◌}
use Rattle.sctp_rules.specs.declared.phase.Phase.TheVariants.{ShutdownSent}
use Rattle.sctp_endpoint.specs.Endpoints.{Endpoint}
use Rattle.sctp_endpoint.proofs.Acknowledging.{shutdown-added, shutdown-none}
use Rattle.sctp_endpoint.proofs.endpoint.Endpoint.bundle_shutdown.Goals as goal

pub returns-in-ShutdownSent : goal.returns-in-ShutdownSent
returns-in-ShutdownSent g c =
    let a = c.args.self.now.state.association in
    let here : a.phase ≡ ShutdownSent = ap (λ (e : Endpoint). e.state.association.phase) (sym c.self.view_is) ∙ c.in-ShutdownSent.is in
    shutdown-added g.W.Watch.has c.args.watch.now c.add_shutdown.new.watch c.args.draft.now c.add_shutdown.new.self a.phase a c.cumulative.result here
    (c.cumulative.ensures ∙ ap (λ (e : Endpoint). e.state.association.receiver.cumulative) c.self.view_is) c.add_shutdown.ensures

pub returns-in_default : goal.returns-in_default
returns-in_default g c =
    shutdown-none g.W.Watch.has c.args.watch.now c.args.draft.now c.args.self.now.state.association.phase c.args.self.now.state.association
    (λ is. c.in_default.not-ShutdownSent (ap (λ (e : Endpoint). e.state.association.phase) c.self.view_is ∙ is))
