-- A network whose nodes are kept, by whatever it came to be: no more is asked by what becomes of things done there.
use Rattle.std.proofs.Common.{◌≡◌, ℕ, List, ap, ◌∙◌}
use Rattle.settings.specs.Configuration.{Configuration}
use Rattle.network_rules.specs.Networks.{NetworkState}
use Rattle.network_rules.specs.Totals.{IsPlaced}
use Rattle.network_world.specs.KeptNodes.{KeptNode}
use Rattle.network_world.specs.KeptNetworks.{kept_at, points_of}
use Rattle.network_world.specs.NetworkStands.{IsNodeAt, NetworkStandsFor}
use Rattle.network_world.proofs.NodeFits.{FitsTo, reached-fit}

pub record IsKept (k : List KeptNode) (w : NetworkState) : Type 0 where
  pub settings : (point : ℕ) → Configuration
  pub placed : IsPlaced settings (points_of k)
  pub fits : (point : ℕ) → FitsTo (settings point) (w.node point)
  pub nodes : (point : ℕ) → IsNodeAt point (kept_at point k) (w.node point)

abbrev pub as-kept : (k : List KeptNode) (w : NetworkState) → NetworkStandsFor k w → IsKept k w
as-kept k w s = record {
  settings = s.reached.settings;
  placed = s.reached.placed;
  fits = reached-fit w s.reached;
  nodes = s.nodes;
}

-- each node is told its point
pub own-point : (k : List KeptNode) (w : NetworkState) → IsKept k w → (point : ℕ) → (w.node point).exchange.settings.own ≡ point
own-point k w s point = ap (λ (c : Configuration). c.own) (s.fits point).settings ∙ s.placed.own point
