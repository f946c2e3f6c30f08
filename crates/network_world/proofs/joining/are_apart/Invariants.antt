-- Those from here on are apart if all are.
use Rattle.std.proofs.Common.{◌≡◌, drop}
use Rattle.network_world.specs.Joined.{are_apart}
use Rattle.network_world.proofs.joining.are_apart.Given as goal

abbrev pub invariant-loop-place : goal.invariant-loop-place
invariant-loop-place l = are_apart (drop l.place l.settings) ≡ are_apart l.settings
