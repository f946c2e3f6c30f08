-- Two nodes that face each other: one link set joins them, and neither has another.
use Rattle.std.specs.Prelude.{ℕ, ◌≡◌, List, [], ◌∷◌, map}
use Rattle.settings.specs.Configuration.{Configuration}

-- the points that the sets lead to, the destinations, and the signalling link codes, in the order of the settings
abbrev pub adjacent_points : Configuration → List ℕ
adjacent_points c = map (λ s. s.adjacent) c.sets

abbrev pub destination_points : Configuration → List ℕ
destination_points c = map (λ d. d.point) c.destinations

abbrev pub link_codes : Configuration → List ℕ
link_codes c = map (λ l. l.slc) c.links

-- a node has one set, which leads to this point, and this point is its only destination
pub record LeadsOnlyTo (c : Configuration) (point : ℕ) : Type 0 where
  pub adjacent : adjacent_points c ≡ point ∷ []
  pub destination : destination_points c ≡ point ∷ []

-- each node leads only to the other's point, both are of the same network, and their links have the same signalling
-- link codes in the same order
pub record IsFacing (near : Configuration) (far : Configuration) : Type 0 where
  pub near_leads : LeadsOnlyTo near far.own
  pub far_leads : LeadsOnlyTo far near.own
  pub network : near.network ≡ far.network
  pub codes : link_codes near ≡ link_codes far
