-- Each link so far is joined.
use Rattle.std.proofs.Common.{◌≡◌, ◌<◌, ℕ, Some}
use Rattle.std.specs.Prelude.{slice_get}
use Rattle.settings.specs.Configuration.{LinkEntry}
use Rattle.node_world.specs.Joined.{IsJoinedBy}
use Rattle.node_world.proofs.joining.is_joined.Given as goal

abbrev pub invariant-loop-place : goal.invariant-loop-place
invariant-loop-place l =
    (link : ℕ) → link < l.place → (e : LinkEntry) → slice_get l.near.links link ≡ Some e → IsJoinedBy l.all l.near e
