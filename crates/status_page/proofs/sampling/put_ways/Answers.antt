-- The sets are those of the node's settings.
use Rattle.std.proofs.Common.{List, ℕ, ap, flat_map, ◌∙◌}
use Rattle.settings.specs.Configuration.{Configuration}
use Rattle.status_page.specs.Metrics.{route_sample, ways_text}
use Rattle.status_page.specs.Places.{sets_to}
use Rattle.status_page.proofs.Adding.{text_as}
use Rattle.status_page.proofs.sampling.put_ways.Goals as goal

pub returns : goal.returns
unfolding ways_text
returns c =
    text_as c.put_each_way.result _ _ _ _ c.put_each_way.ensures
    (ap (λ (sets : List ℕ). flat_map (route_sample c.args.points c.args.exchange.now c.args.family c.args.destination) sets)
    (c.sets_to.ensures ∙ ap (λ (it : Configuration). sets_to it c.args.destination) c.settings.ensures.kept_settings))
