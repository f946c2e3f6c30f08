-- The flags of the exchange that is kept are those of the abstract one.
use Rattle.std.proofs.Common.{rules, ◌≡◌, List, ap, ◌∙◌}
use Rattle.node_world.specs.Kept.{KeptNode, lost_at, node_at}
use Rattle.node_world.proofs.Shown.{lost-same}
use Rattle.node_world.proofs.world.World.lost_any.Goals as goal

pub returns-clause-kept : goal.returns-clause-kept
returns-clause-kept c =
    let here : c.deref.result.now ≡ c.args.self.now = search rules in
    c.lost_at.ensures ∙ ap (λ (k : List KeptNode). lost_at (node_at c.args.at k)) here

pub returns-clause-stands : goal.returns-clause-stands
returns-clause-stands c =
    let here : c.deref.result.now ≡ c.args.self.now = search rules in
    λ w s. c.lost_at.ensures ∙ ap (λ (k : List KeptNode). lost_at (node_at c.args.at k)) here ∙ lost-same c.args.self.now w s c.args.at
