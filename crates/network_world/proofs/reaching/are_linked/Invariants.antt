-- Each so far is linked.
use Rattle.std.proofs.Common.{◌<◌, ℕ}
use Rattle.network_world.specs.KeptLinks.{IsLinkedAt}
use Rattle.network_world.proofs.reaching.are_linked.Given as goal

abbrev pub invariant-loop-place : goal.invariant-loop-place
invariant-loop-place l = (place : ℕ) → place < l.place → IsLinkedAt l.nodes place
