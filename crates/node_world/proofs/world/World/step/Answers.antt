-- What happens to the exchange of a node is a step of the world.
use Rattle.std.proofs.Common.{rules, ◌≡◌, true, List, Some, ap, sym, subst, ◌∙◌}
use Rattle.std.proofs.lemmas.List.{with_items_is}
use Rattle.exchange.specs.Calls.{happened}
use Rattle.network_gates.specs.GateWorlds.{Happens, after}
use Rattle.node_world.specs.Calls.{NodesStep}
use Rattle.node_world.specs.Kept.{KeptNode, has_node, place_at, points_of}
use Rattle.node_world.specs.Stands.{StandsFor}
use Rattle.node_world.specs.Worlds.{is_own}
use Rattle.node_world.proofs.PointsStay.{StayThere, stay-steps}
use Rattle.node_world.proofs.Worlds.{happens-there, outcome-there, second-of, step-length}
use Rattle.node_world.proofs.world.World.step.Goals as goal

pub returns-in-Some-clause-outcome : goal.returns-in-Some-clause-outcome
returns-in-Some-clause-outcome c = λ w s may.
    let here : c.deref.result.now ≡ c.args.self.now = search rules in
    let old : c.deref_mut.result.now ≡ c.args.self.now = c.deref_mut.ensures.value ∙ c.self.view_is in
    let place : place_at c.args.at c.args.self.now ≡ Some c.in-Some.place = ap (place_at c.args.at) (sym here) ∙ sym c.in-Some.ensures.place in
    let own : is_own c.args.event.now ≡ true = second-of (has_node c.args.at c.args.self.now) (is_own c.args.event.now) may in
    outcome-there c.args.self.now c.step_from.new.nodes w s c.args.at c.in-Some.place place c.args.event.now c.step_from.result
    (subst (λ (k : List KeptNode). NodesStep c.in-Some.place c.args.event.now c.step_from.result k c.step_from.new.nodes) old (c.step_from.ensures.steps own))

pub returns-in-Some-clause-state : goal.returns-in-Some-clause-state
returns-in-Some-clause-state c = λ w s may.
    let here : c.deref.result.now ≡ c.args.self.now = search rules in
    let old : c.deref_mut.result.now ≡ c.args.self.now = c.deref_mut.ensures.value ∙ c.self.view_is in
    let place : place_at c.args.at c.args.self.now ≡ Some c.in-Some.place = ap (place_at c.args.at) (sym here) ∙ sym c.in-Some.ensures.place in
    let own : is_own c.args.event.now ≡ true = second-of (has_node c.args.at c.args.self.now) (is_own c.args.event.now) may in
    let t = c.step_from.ensures.steps own in
    let many = step-length c.deref_mut.result.now c.step_from.new.nodes c.in-Some.place c.args.event.now c.step_from.result t ∙ c.deref_mut.ensures.len in
    subst (λ (k : List KeptNode). StandsFor k (after c.args.at (Happens (happened c.args.event.now c.step_from.result)) w))
    (sym (with_items_is c.self.inside.nodes c.step_from.new.nodes many))
    (happens-there c.args.self.now c.step_from.new.nodes w s c.args.at c.in-Some.place place c.args.event.now c.step_from.result own
    (subst (λ (k : List KeptNode). NodesStep c.in-Some.place c.args.event.now c.step_from.result k c.step_from.new.nodes) old t))

pub returns-in-Some-clause-points : goal.returns-in-Some-clause-points
returns-in-Some-clause-points c =
    let old : c.deref_mut.result.now ≡ c.args.self.now = c.deref_mut.ensures.value ∙ c.self.view_is in
    let stay : StayThere c.deref_mut.result.now c.step_from.new.nodes =
    stay-steps c.deref_mut.result.now c.step_from.new.nodes c.in-Some.place c.args.event.now c.step_from.result c.step_from.ensures.steps c.step_from.ensures.unchanged in
    ap points_of (with_items_is c.self.inside.nodes c.step_from.new.nodes (stay.many ∙ c.deref_mut.ensures.len)) ∙ stay.points ∙ ap points_of old
