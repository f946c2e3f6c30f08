use Rattle.std.proofs.Common.{[], ◌∷◌, sym, subst, ◌∙◌}
use Rattle.sctp_rules.specs.Data.{sack_of}
use Rattle.sctp_bundling.specs.Bundling.{Adds}
use Rattle.sctp_endpoint.specs.Endpoints.{Endpoint}
use Rattle.sctp_endpoint.proofs.Acknowledging.{acknowledged-both, acknowledged-none}
use Rattle.sctp_endpoint.proofs.endpoint.Endpoint.bundle_acknowledgement.Goals as goal

pub returns-then-not-is_acknowledging-clause-bundled : goal.returns-then-not-is_acknowledging-clause-bundled
returns-then-not-is_acknowledging-clause-bundled g c =
    acknowledged-none g.W.Watch.has c.args.watch.now c.args.draft.now c.args.self.now.state.association (sym c.is_acknowledging.ensures ∙ c.if-not-is_acknowledging.true)

pub returns-clause-bundled : goal.returns-clause-bundled
returns-clause-bundled g c =
    acknowledged-both g.W.Watch.has c.args.watch.now c.bundle_shutdown.new.watch c.add_sack.new.watch c.args.draft.now c.bundle_shutdown.new.draft c.add_sack.new.self c.args.self.now.state.association
    (sym c.is_acknowledging.ensures ∙ c.if-not-is_acknowledging.false) c.bundle_shutdown.ensures
    (subst (λ (e : Endpoint). Adds g.W.Watch.has c.bundle_shutdown.new.watch c.add_sack.new.watch c.bundle_shutdown.new.draft c.add_sack.new.self (sack_of e.state.association.receiver ∷ [])) c.self.view_is c.add_sack.ensures)
