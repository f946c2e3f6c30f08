-- Each is, and so all are.
use Rattle.std.proofs.Common.{rules, ◌<◌, IsTrue, length, refl, arith}
use Rattle.std.proofs.lemmas.Option.{slice_get_within}
use Rattle.network_world.specs.KeptLinks.{IsLinkedAt}
use Rattle.network_world.proofs.OneByOne.{one-further}
use Rattle.network_world.proofs.reaching.are_linked.Goals as goal

pub loop-place-preserved : goal.loop-place-preserved
loop-place-preserved c =
    let yes : IsTrue c.is_linked.result = search rules in
    one-further (IsLinkedAt c.args.nodes.now) c.loop-place.place c.loop-place.invariant (c.is_linked.ensures.0 yes)

pub returns : goal.returns
returns c = (
  (λ yes place n e.
      let within : place < length c.args.nodes.now = slice_get_within c.args.nodes.now place n e in
      c.loop-place.invariant place (omega (arith, within, c.loop-place-test.false)) n e),
  (λ all. refl),
)
