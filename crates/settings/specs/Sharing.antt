-- Two nodes that share a link set, whatever other sets, links and destinations each of them has.
use Rattle.std.specs.Prelude.{ℕ, Bool, false, ◌&&◌, ◌≡◌, List, [], ◌∷◌, Option, Some, None, nat_eq, slice_index_or}
use Rattle.std.specs.List.{list_any}
use Rattle.settings.specs.Configuration.{Configuration, LinkEntry}
use Rattle.settings.specs.Readings.{set_place, destination_place}

-- the sets that lead to a destination, by its number, the preferred one first
abbrev pub sets_to : Configuration → (destination : Option ℕ) → List ℕ
sets_to c (Some destination) =
    (slice_index_or c.destinations destination (record { point = 0; sets = []; joined = false })).sets
sets_to c None = []

-- the links of a set lead to a point, and no other set leads there
pub record LeadsAlone (c : Configuration) (point set : ℕ) : Type 0 where
  pub adjacent : set_place c point ≡ Some set
  pub only : sets_to c (destination_place c point) ≡ set ∷ []

-- whether a link is that of a set with this signalling link code
abbrev pub is_link_of : (set slc : ℕ) → LinkEntry → Bool
is_link_of set slc l = nat_eq l.set set && nat_eq l.slc slc

-- whether there is one among these
abbrev pub has_link_of : (set slc : ℕ) → List LinkEntry → Bool
has_link_of set slc links = list_any (is_link_of set slc) links

-- each node has a set that alone leads to the other's point, both are of the same network, and the links of the two
-- sets have the same signalling link codes; two links with the same code are the two ends of one
pub record SharesSet (near far : Configuration) : Type 0 where
  pub near_set : ℕ
  pub far_set : ℕ
  pub near_leads : LeadsAlone near far.own near_set
  pub far_leads : LeadsAlone far near.own far_set
  pub network : near.network ≡ far.network
  pub codes : (slc : ℕ) → has_link_of near_set slc near.links ≡ has_link_of far_set slc far.links
