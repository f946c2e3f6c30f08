-- Each node so far is joined.
use Rattle.std.proofs.Common.{◌≡◌, ◌<◌, ℕ, Some}
use Rattle.std.specs.Prelude.{slice_get}
use Rattle.node_world.specs.declared.node_making.NodeMaking.{NodeMaking}
use Rattle.node_world.specs.Joined.{IsJoined}
use Rattle.node_world.proofs.joining.are_joined.Given as goal

abbrev pub invariant-loop-place : goal.invariant-loop-place
invariant-loop-place l =
    (place : ℕ) → place < l.place → (m : NodeMaking) → slice_get l.nodes place ≡ Some m → IsJoined l.nodes m.settings
