-- The nodes that were booted stand for the first network.
use Rattle.std.proofs.Common.{rules, ◌≡◌, true, List, [], ap, sym, subst, ◌∙◌}
use Rattle.settings.specs.Configuration.{Configuration}
use Rattle.network_rules.specs.Networks.{first_network}
use Rattle.network_world.specs.Joined.{AreWell, are_apart, settings_at}
use Rattle.network_world.specs.KeptNodes.{KeptNode}
use Rattle.network_world.specs.KeptNetworks.{points_of}
use Rattle.network_world.specs.NetworkStands.{NetworkStandsFor}
use Rattle.network_world.specs.NetworkAnew.{RunsSince}
use Rattle.network_world.proofs.NetworkFirst.{first-runs, first-stands, points-same}
use Rattle.network_world.proofs.network.Network.new_part.Goals as goal

pub returns-in-Ok-clause-first : goal.returns-in-Ok-clause-first
returns-in-Ok-clause-first c =
    let own = c.args.settings.items in
    let apart : are_apart own ≡ true = subst (λ (cs : List Configuration). are_apart cs ≡ true) c.deref-2.ensures.value (search rules) in
    let well : AreWell own = subst AreWell c.deref.ensures.value c.are_well.ensures in
    subst (λ (k : List KeptNode). NetworkStandsFor k (first_network (settings_at own))) (sym c.in-Ok.ensures) (first-stands own apart well)

pub returns-in-Ok-clause-since : goal.returns-in-Ok-clause-since
returns-in-Ok-clause-since c =
    let own = c.args.settings.items in
    let apart : are_apart own ≡ true = subst (λ (cs : List Configuration). are_apart cs ≡ true) c.deref-2.ensures.value (search rules) in
    let well : AreWell own = subst AreWell c.deref.ensures.value c.are_well.ensures in
    subst (λ (k : List KeptNode). RunsSince k (first_network (settings_at own)) []) (sym c.in-Ok.ensures) (first-runs own apart well)

pub returns-in-Ok-clause-points : goal.returns-in-Ok-clause-points
returns-in-Ok-clause-points c = ap points_of c.in-Ok.ensures ∙ points-same c.args.settings.items
