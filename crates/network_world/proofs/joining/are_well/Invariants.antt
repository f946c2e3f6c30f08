-- All so far are within every limit.
use Rattle.std.proofs.Common.{◌≡◌, ◌<◌, ℕ, Some}
use Rattle.std.specs.Prelude.{slice_get}
use Rattle.settings.specs.Configuration.{Configuration}
use Rattle.settings.specs.Well.{IsWell}
use Rattle.network_world.proofs.joining.are_well.Given as goal

abbrev pub invariant-loop-place : goal.invariant-loop-place
invariant-loop-place l =
    (place : ℕ) → place < l.place → (c : Configuration) → slice_get l.settings place ≡ Some c → IsWell c
