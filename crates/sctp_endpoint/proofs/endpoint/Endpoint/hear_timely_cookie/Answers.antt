use Rattle.std.proofs.Common.{nat_eq, sym, ap, ◌∙◌}
use Rattle.std.proofs.lemmas.Bool.{ne_eqb}
use Rattle.sctp_endpoint.specs.Endpoints.{Endpoint}
use Rattle.sctp_bundling.specs.Settings.{address_of}
use Rattle.sctp_endpoint.proofs.Hearing.{stale-in-time}
use Rattle.sctp_endpoint.proofs.endpoint.Endpoint.hear_timely_cookie.Goals as goal

pub returns-else-cookie-self-clause-does : goal.returns-else-cookie-self-clause-does
returns-else-cookie-self-clause-does g c =
    let other = ap (λ (e : Endpoint). nat_eq c.args.cookie.now.generation e.state.generation) (sym c.self.view_is) ∙ ne_eqb c.args.cookie.now.generation c.self.inside.generation c.if-cookie-self.false in
    stale-in-time g.W.Watch.has c.args.watch.now c.tell_stale.new.watch c.args.self.now (address_of c.args.source.now) c.args.now c.args.cookie.now other c.tell_stale.ensures
