-- Each is, and so all are.
use Rattle.std.proofs.Common.{rules, ◌≡◌, ◌<◌, ℕ, IsTrue, Some, length, refl, ap, sym, subst, ◌∙◌, arith}
use Rattle.std.specs.Prelude.{slice_get}
use Rattle.std.proofs.lemmas.Option.{slice_get-get_or, slice_get_within}
use Rattle.network_world.specs.KeptAnew.{IsNodeQuiet}
use Rattle.network_world.specs.KeptNodes.{KeptNode}
use Rattle.network_world.proofs.OneByOne.{one-further}
use Rattle.network_world.proofs.restarting.are_quiet.Goals as goal

same-node : (x y : KeptNode) → Some x ≡ Some y → x ≡ y
same-node x y e = cc

pub loop-place-preserved : goal.loop-place-preserved
loop-place-preserved c =
    let xs = c.args.nodes.now in
    let inside : c.loop-place.place < length xs = search rules in
    let got : slice_get xs c.loop-place.place ≡ Some c.index-nodes-place.result =
    slice_get-get_or xs c.loop-place.place c.index-nodes-place.result inside ∙ ap (λ (n : KeptNode). Some n) (sym c.index-nodes-place.is) in
    let yes : IsTrue c.is_quiet.result = search rules in
    one-further (λ (place : ℕ). (n : KeptNode) → slice_get xs place ≡ Some n → IsNodeQuiet n) c.loop-place.place c.loop-place.invariant
    (λ n e. subst IsNodeQuiet (same-node c.index-nodes-place.result n (sym got ∙ e)) (c.is_quiet.ensures.0 yes))

pub returns : goal.returns
returns c = (
  (λ yes place n e.
      let within : place < length c.args.nodes.now = slice_get_within c.args.nodes.now place n e in
      c.loop-place.invariant place (omega (arith, within, c.loop-place-test.false)) n e),
  (λ all. refl),
)
