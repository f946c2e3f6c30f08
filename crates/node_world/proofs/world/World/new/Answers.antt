-- New nodes stand for the new world of what they are made of.
use Rattle.std.proofs.Common.{rules, ◌≡◌, true, List, ap, sym, subst, ◌∙◌}
use Rattle.network_gates.specs.GateWorlds.{new_world}
use Rattle.node_world.specs.declared.node_making.NodeMaking.{NodeMaking}
use Rattle.node_world.specs.Joined.{AreJoined, AreWell, are_apart}
use Rattle.node_world.specs.Kept.{KeptNode, points_of}
use Rattle.node_world.specs.Making.{make_at}
use Rattle.node_world.specs.Stands.{StandsFor}
use Rattle.node_world.proofs.FirstWorld.{first-world, points-are}
use Rattle.node_world.proofs.world.World.new.Goals as goal

pub returns-in-Ok-clause-first : goal.returns-in-Ok-clause-first
returns-in-Ok-clause-first c =
    let nodes = c.args.nodes.items in
    let apart : are_apart nodes ≡ true = subst (λ (ms : List NodeMaking). are_apart ms ≡ true) c.deref-2.ensures.value (search rules) in
    let well : AreWell nodes = subst AreWell c.deref.ensures.value c.are_well.ensures in
    let joined : AreJoined nodes = subst AreJoined c.deref-3.ensures.value (c.are_joined.ensures.0 (search rules)) in
    subst (λ (k : List KeptNode). StandsFor k (new_world (make_at nodes))) (sym c.in-Ok.ensures.first)
    (first-world nodes apart well joined c.in-Ok.ensures.ports c.in-Ok.ensures.suit)

pub returns-in-Ok-clause-points : goal.returns-in-Ok-clause-points
returns-in-Ok-clause-points c = ap points_of c.in-Ok.ensures.first ∙ points-are c.args.nodes.items
