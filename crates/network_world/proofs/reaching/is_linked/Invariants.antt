-- Each link so far has its other end.
use Rattle.std.proofs.Common.{◌≡◌, ◌<◌, ℕ, true, is_some}
use Rattle.std.specs.Prelude.{slice_get}
use Rattle.network_world.specs.KeptNetworks.{kept_other_end}
use Rattle.network_world.proofs.reaching.is_linked.Given as goal

abbrev pub invariant-loop-link : goal.invariant-loop-link
invariant-loop-link l =
    (link : ℕ) → link < l.link → is_some (kept_other_end l.nodes (slice_get l.nodes l.near) link) ≡ true
