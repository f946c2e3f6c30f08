-- Each node so far is joined.
use Rattle.std.proofs.Common.{◌≡◌, ◌<◌, ℕ, Some}
use Rattle.std.specs.Prelude.{slice_get}
use Rattle.settings.specs.Configuration.{Configuration}
use Rattle.network_world.specs.Joined.{IsJoined}
use Rattle.network_world.proofs.joining.are_joined.Given as goal

abbrev pub invariant-loop-place : goal.invariant-loop-place
invariant-loop-place l =
    (place : ℕ) → place < l.place → (c : Configuration) → slice_get l.settings place ≡ Some c → IsJoined l.settings c
