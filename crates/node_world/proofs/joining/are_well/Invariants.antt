-- All so far are within every limit.
use Rattle.std.proofs.Common.{◌≡◌, ◌<◌, ℕ, Some}
use Rattle.std.specs.Prelude.{slice_get}
use Rattle.settings.specs.Well.{IsWell}
use Rattle.node_world.specs.declared.node_making.NodeMaking.{NodeMaking}
use Rattle.node_world.proofs.joining.are_well.Given as goal

abbrev pub invariant-loop-place : goal.invariant-loop-place
invariant-loop-place l =
    (place : ℕ) → place < l.place → (m : NodeMaking) → slice_get l.nodes place ≡ Some m → IsWell m.settings
