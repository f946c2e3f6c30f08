-- The places that a node has for the links, sets and destinations of its settings.
use Rattle.std.specs.Prelude.{◌≡◌, ◌<◌, ◌≤◌, ℕ, length, replicate}
use Rattle.signalling_types.specs.declared.limits.TheConstants.Limits.{LINKS, CHANGEBACK_CODES}
use Rattle.settings.specs.Configuration.{Configuration}
use Rattle.flow_hold.specs.Holds.{HoldSet}
use Rattle.flow_hold.specs.Pairs.{IsOfNode}
use Rattle.changeback.specs.Codes.{Codes, codes_of}
use Rattle.route_management.specs.Told.{shape_of}
use Rattle.exchange_rules.specs.State.{Parts}

-- the holds are for these links, sets and destinations: no other procedure holds a flow, and none holds any other flow
pub record HasHoldsFor (c : Configuration) (h : HoldSet) : Type 0 where
  pub links : h.links ≡ length c.links
  pub sets : h.sets ≡ length c.sets
  pub destinations : h.destinations ≡ length c.destinations
  pub pairs : IsOfNode h

-- each set has its codes
pub record HasCodes (sets : ℕ) (t : Codes) : Type 0 where
  pub rows : length t ≡ sets
  pub each : (set : ℕ) → set < sets → length (codes_of t set) ≡ CHANGEBACK_CODES

-- there is a place for each link, set and destination of the settings: each link has its state and its changeover, each
-- set its codes, and each destination its routes, what each adjacent point was told of it, and how many messages for
-- user parts that aren't here came from it
pub record HasPlacesFor (c : Configuration) (p : Parts) : Type 0 where
  pub few_links : length c.links ≤ LINKS
  pub links : length p.links ≡ length c.links
  pub changeovers : length p.changeovers ≡ length c.links
  pub routes : length p.routes ≡ length c.destinations
  pub told : shape_of p.told ≡ replicate (length c.sets) (length c.destinations)
  pub codes : HasCodes (length c.sets) p.codes
  pub holds : HasHoldsFor c p.holds
  pub unequipped : length p.unequipped ≡ length c.destinations
