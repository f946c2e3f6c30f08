-- Each so far is quiet.
use Rattle.std.proofs.Common.{◌≡◌, ◌<◌, ℕ, Some}
use Rattle.std.specs.Prelude.{slice_get}
use Rattle.network_world.specs.KeptAnew.{IsNodeQuiet}
use Rattle.network_world.specs.KeptNodes.{KeptNode}
use Rattle.network_world.proofs.restarting.are_quiet.Given as goal

abbrev pub invariant-loop-place : goal.invariant-loop-place
invariant-loop-place l =
    (place : ℕ) → place < l.place → (n : KeptNode) → slice_get l.nodes place ≡ Some n → IsNodeQuiet n
