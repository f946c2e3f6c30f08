-- Each so far may open, and isn't to follow.
use Rattle.std.proofs.Common.{◌≡◌, ◌<◌, ℕ, false, true}
use Rattle.std.specs.Prelude.{slice_index_or}
use Rattle.exchange.specs.Views.{may_restart_at}
use Rattle.network_world.proofs.site.Site.do_links_rest.Given as goal

abbrev pub invariant-loop-link : goal.invariant-loop-link
invariant-loop-link l =
    (link : ℕ) → link < l.link → (may_restart_at l.self.exchange link ≡ true) × (slice_index_or l.self.following link false ≡ false)
