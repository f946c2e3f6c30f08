-- Each is, and so all are.
use Rattle.std.proofs.Common.{rules, ◌≡◌, ◌<◌, ℕ, Some, length, ap, sym, subst, ◌∙◌}
use Rattle.std.specs.Prelude.{slice_get, slice_index_or}
use Rattle.std.proofs.lemmas.Option.{slice_get-get_or, slice_get_within}
use Rattle.settings.specs.Well.{IsWell}
use Rattle.node_world.specs.declared.node_making.NodeMaking.{NodeMaking}
use Rattle.node_world.proofs.OneByOne.{one-further, same-making}
use Rattle.node_world.proofs.joining.are_well.Goals as goal

pub loop-place-preserved : goal.loop-place-preserved
loop-place-preserved c =
    let xs = c.args.nodes.now in
    let inside : c.loop-place.place < length xs = search rules in
    let here : NodeMaking = slice_index_or xs c.loop-place.place c.index-nodes-place.result in
    let got : slice_get xs c.loop-place.place ≡ Some here = slice_get-get_or xs c.loop-place.place c.index-nodes-place.result inside in
    one-further (λ (place : ℕ). (m : NodeMaking) → slice_get xs place ≡ Some m → IsWell m.settings) c.loop-place.place c.loop-place.invariant
    (λ m e. subst IsWell (ap (λ (x : NodeMaking). x.settings) (same-making here m (sym got ∙ e))) c.are_well.ensures)

pub returns : goal.returns
returns c = λ place m e.
    let xs = c.args.nodes.now in
    let within : place < length xs = slice_get_within xs place m e in
    let below : place < c.loop-place.place = search rules in
    c.loop-place.invariant place below m e
