-- A call of a gate is a step of the world.
use Rattle.std.proofs.Common.{rules, ◌≡◌, ◌<◌, true, List, Some, None, length, ap, sym, subst, ◌∙◌}
use Rattle.std.proofs.lemmas.List.{with_items_is}
use Rattle.std.specs.Prelude.{slice_get}
use Rattle.network_gates.specs.GateWorlds.{Calls, after}
use Rattle.node_world.specs.Calls.{NodesCall, is_made_from, octets_heard, told}
use Rattle.node_world.specs.Kept.{KeptNode, kept_other_end, place_at, points_of, sent_there, sent_to}
use Rattle.node_world.specs.Stands.{StandsFor}
use Rattle.node_world.proofs.CallsThere.{answers, called-there, made-so, none-made}
use Rattle.node_world.proofs.PointsStay.{StayThere, stay-called}
use Rattle.node_world.proofs.Worlds.{call-length}
use Rattle.node_world.proofs.world.World.call.Goals as goal

pub returns-in-Some-clause-answer : goal.returns-in-Some-clause-answer
returns-in-Some-clause-answer c =
    let here : c.deref.result.now ≡ c.args.self.now = search rules in
    let old : c.deref_mut.result.now ≡ c.args.self.now = c.deref_mut.ensures.value ∙ c.self.view_is in
    let place : place_at c.args.at c.args.self.now ≡ Some c.in-Some.place = ap (place_at c.args.at) (sym here) ∙ sym c.in-Some.ensures.place in
    answers c.args.self.now c.args.at c.in-Some.place c.args.link c.args.now c.args.call place c.call_from.result
    (c.call_from.ensures.answer ∙ ap (λ (k : List KeptNode). is_made_from c.args.call c.in-Some.place c.args.link k (slice_get k c.in-Some.place)) old)

pub returns-in-Some-clause-made : goal.returns-in-Some-clause-made
returns-in-Some-clause-made c = λ w s less.
    let here : c.deref.result.now ≡ c.args.self.now = search rules in
    let old : c.deref_mut.result.now ≡ c.args.self.now = c.deref_mut.ensures.value ∙ c.self.view_is in
    let place : place_at c.args.at c.args.self.now ≡ Some c.in-Some.place = ap (place_at c.args.at) (sym here) ∙ sym c.in-Some.ensures.place in
    made-so c.args.self.now c.args.at c.in-Some.place c.args.link c.args.now c.args.call place c.call_from.result
    (c.call_from.ensures.answer ∙ ap (λ (k : List KeptNode). is_made_from c.args.call c.in-Some.place c.args.link k (slice_get k c.in-Some.place)) old)
    w s less (subst (λ (k : List KeptNode). c.in-Some.place < length k) here c.in-Some.ensures.fits)

pub returns-in-Some-clause-state : goal.returns-in-Some-clause-state
returns-in-Some-clause-state c = λ w s done may.
    let here : c.deref.result.now ≡ c.args.self.now = search rules in
    let old : c.deref_mut.result.now ≡ c.args.self.now = c.deref_mut.ensures.value ∙ c.self.view_is in
    let place : place_at c.args.at c.args.self.now ≡ Some c.in-Some.place = ap (place_at c.args.at) (sym here) ∙ sym c.in-Some.ensures.place in
    let t = c.call_from.ensures.calls done in
    let many = call-length c.deref_mut.result.now c.call_from.new.nodes c.in-Some.place c.args.link _ t ∙ c.deref_mut.ensures.len in
    subst (λ (k : List KeptNode). StandsFor k (after c.args.at (Calls c.args.link (told c.args.call (octets_heard c.args.call (sent_to c.args.self.now c.args.at c.args.link)) c.args.now)) w))
    (sym (with_items_is c.self.inside.nodes c.call_from.new.nodes many))
    (called-there c.args.self.now c.args.at c.in-Some.place c.args.link c.args.now c.args.call place c.call_from.result
    (c.call_from.ensures.answer ∙ ap (λ (k : List KeptNode). is_made_from c.args.call c.in-Some.place c.args.link k (slice_get k c.in-Some.place)) old)
    c.call_from.new.nodes
    (subst (λ (k : List KeptNode). c.call_from.result ≡ true → NodesCall c.in-Some.place c.args.link
    (told c.args.call (octets_heard c.args.call (sent_there k (kept_other_end k (slice_get k c.in-Some.place) c.args.link))) c.args.now) k c.call_from.new.nodes) old c.call_from.ensures.calls)
    w s done may)

pub returns-in-None-clause-made : goal.returns-in-None-clause-made
returns-in-None-clause-made c = λ w s less.
    let here : c.deref.result.now ≡ c.args.self.now = search rules in
    let none : place_at c.args.at c.args.self.now ≡ None = ap (place_at c.args.at) (sym here) ∙ sym c.in-None.ensures.place in
    absurd (none-made c.args.self.now c.args.at c.args.link w s none less)

pub returns-in-Some-clause-points : goal.returns-in-Some-clause-points
returns-in-Some-clause-points c =
    let old : c.deref_mut.result.now ≡ c.args.self.now = c.deref_mut.ensures.value ∙ c.self.view_is in
    let stay : StayThere c.deref_mut.result.now c.call_from.new.nodes =
    stay-called c.deref_mut.result.now c.call_from.new.nodes c.in-Some.place c.args.link _ c.call_from.result c.call_from.ensures.calls c.call_from.ensures.unchanged in
    ap points_of (with_items_is c.self.inside.nodes c.call_from.new.nodes (stay.many ∙ c.deref_mut.ensures.len)) ∙ stay.points ∙ ap points_of old
