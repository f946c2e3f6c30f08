-- The destination is there.
use Rattle.std.proofs.Common.{◌∙◌, ap}
use Rattle.settings.specs.Configuration.{Configuration}
use Rattle.exchange.specs.Views.{route_view}
use Rattle.status_page.specs.Places.{sets_to}
use Rattle.status_page.specs.States.{route_tokens}
use Rattle.status_page.proofs.Shown.{route_put}
use Rattle.status_page.proofs.state.destinations.put_route.Goals as goal

pub returns-in-Some : goal.returns-in-Some
unfolding route_tokens
returns-in-Some c =
    route_put c.args.points c.settings.result.now c.args.exchange.now.settings c.args.exchange.now c.args.destination
    c.sets_to.result.now (sets_to c.args.exchange.now.settings c.args.destination)
    (route_view c.args.exchange.now c.args.destination) c.in-Some.view
    c.put_shown_route.result c.args.out.now c.put_shown_route.new.out
    c.in-Some.ensures.kept_route c.settings.ensures.kept_settings
    (c.sets_to.ensures ∙ ap (λ (it : Configuration). sets_to it c.args.destination) c.settings-in-Some.ensures.kept_settings)
    c.put_shown_route.ensures
