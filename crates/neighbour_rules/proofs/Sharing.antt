-- What two settings that share a set give to the pass, seen from either node.
use Rattle.pair_rules.proofs.Basics.{◌≡◌, ◌≢◌, ◌<◌, ℕ, [], ◌∷◌, false, Some, length, nat_eq, refl, sym}
use Rattle.std.proofs.lemmas.List.Quantifiers.{position-Some}
use Rattle.settings.specs.Sharing.{LeadsAlone, has_link_of, sets_to}
use Rattle.pair_rules.proofs.Definitions.{Configuration, DestinationEntry, IsWell, Pair, destination_place}
use Rattle.pair_moves.specs.Ends as ends
use Rattle.pair_rules.specs.Sharing.{AreSharing}
use Rattle.neighbour_rules.proofs.Bringing.{destination-far}
use Rattle.neighbour_rules.proofs.Counted.{Base, CanGrow, no_base, none-grow, turned_base}
use Rattle.neighbour_rules.proofs.World.{codes}
use Rattle.neighbour_rules.proofs.Good.{Joint}
use Rattle.neighbour_rules.proofs.Staying.{IsKnown, known}

-- all that it needs, of both nodes
pub record AreFacing (near far : Configuration) : Type 0 where
  pub near_well : IsWell near
  pub far_well : IsWell far
  pub apart : near.own ≢ far.own
  pub back_apart : far.own ≢ near.own
  pub near_set : ℕ
  pub far_set : ℕ
  pub near_leads : LeadsAlone near far.own near_set
  pub far_leads : LeadsAlone far near.own far_set
  pub network : near.network ≡ far.network
  pub back_network : far.network ≡ near.network
  pub codes : (slc : ℕ) → has_link_of near_set slc near.links ≡ has_link_of far_set slc far.links
  pub back_codes : (slc : ℕ) → has_link_of far_set slc far.links ≡ has_link_of near_set slc near.links
  -- what the two had counted when the promise began, and the pair with which the moves between them did
  pub base : Base
  pub destination : ℕ
  pub place : destination_place near base.there ≡ Some destination
  pub there : destination < length near.destinations
  pub only : sets_to near (destination_place near base.there) ≡ near_set ∷ []
  pub adjacent : ℕ
  pub adjacent_place : destination_place near far.own ≡ Some adjacent
  pub back_destination : ℕ
  pub back_place : destination_place far base.back ≡ Some back_destination
  pub back_there : back_destination < length far.destinations
  pub back_only : sets_to far (destination_place far base.back) ≡ far_set ∷ []
  pub back_adjacent : ℕ
  pub back_adjacent_place : destination_place far near.own ≡ Some back_adjacent
  pub near_grows : CanGrow base.near
  pub far_grows : CanGrow base.far
  pub start : Pair

abbrev pub near_joint : (near far : Configuration) → AreFacing near far → Joint near far
near_joint near far a = record {
  near_well = a.near_well;
  far_well = a.far_well;
  apart = a.apart;
  shares = record { near_set = a.near_set; far_set = a.far_set; near_leads = a.near_leads; far_leads = a.far_leads; network = a.network; codes = a.codes };
  base = a.base;
  destination = a.destination;
  place = a.place;
  there = a.there;
  only = a.only;
  adjacent = a.adjacent;
  adjacent_place = a.adjacent_place;
  grows = a.near_grows;
}

-- the same, seen from the far node
abbrev pub facing_back : (near far : Configuration) → AreFacing near far → AreFacing far near
facing_back near far a = record {
  near_well = a.far_well;
  far_well = a.near_well;
  apart = a.back_apart;
  back_apart = a.apart;
  near_set = a.far_set;
  far_set = a.near_set;
  near_leads = a.far_leads;
  far_leads = a.near_leads;
  network = a.back_network;
  back_network = a.network;
  codes = a.back_codes;
  back_codes = a.codes;
  destination = a.back_destination;
  place = a.back_place;
  there = a.back_there;
  only = a.back_only;
  adjacent = a.back_adjacent;
  adjacent_place = a.back_adjacent_place;
  back_destination = a.destination;
  back_place = a.place;
  back_there = a.there;
  back_only = a.only;
  back_adjacent = a.adjacent;
  back_adjacent_place = a.adjacent_place;
  base = turned_base a.base;
  near_grows = a.far_grows;
  far_grows = a.near_grows;
  start = ends.turned a.start;
}

abbrev pub far_joint : (near far : Configuration) → AreFacing near far → Joint far near
far_joint near far a = near_joint far near (facing_back near far a)

-- the promise begins where the two had counted this
abbrev pub counting_from : (near far : Configuration) (b : Base) → CanGrow b.near → CanGrow b.far → AreFacing near far → AreFacing near far
counting_from near far b near_grows far_grows a = record a { base = record b { there = a.base.there; back = a.base.back }; near_grows = near_grows; far_grows = far_grows }

-- and where nothing was counted
abbrev pub from_first : (near far : Configuration) → AreFacing near far → AreFacing near far
from_first near far a = record (counting_from near far (no_base a.base.there a.base.back) none-grow none-grow a) { start = ends.first_pair codes }

-- ---- of two settings

module _ (near far : Configuration) (well : IsWell near) (set : ℕ) (leads : LeadsAlone near far.own set) where
  pub its : IsKnown near far.own
  its = known near far.own set leads

  pub its-apart : near.own ≢ far.own
  its-apart same = destination-far near well far.own its.destination its.is (sym same)

  pub its-there : its.destination < length near.destinations
  its-there = (position-Some (λ (x : DestinationEntry). nat_eq far.own x.point) near.destinations its.destination (record { point = 0; sets = []; joined = false }) its.is).0

pub are-facing : (near far : Configuration) → AreSharing near far → AreFacing near far
are-facing near far g =
    let here : IsKnown near far.own = its near far g.near_well g.shares.near_set g.shares.near_leads in
    let there : IsKnown far near.own = its far near g.far_well g.shares.far_set g.shares.far_leads in
    record {
      near_well = g.near_well;
      far_well = g.far_well;
      apart = its-apart near far g.near_well g.shares.near_set g.shares.near_leads;
      back_apart = its-apart far near g.far_well g.shares.far_set g.shares.far_leads;
      near_set = g.shares.near_set;
      far_set = g.shares.far_set;
      near_leads = g.shares.near_leads;
      far_leads = g.shares.far_leads;
      network = g.shares.network;
      back_network = sym g.shares.network;
      codes = g.shares.codes;
      back_codes = λ slc. sym (g.shares.codes slc);
      base = no_base far.own near.own;
      destination = here.destination;
      place = here.is;
      there = its-there near far g.near_well g.shares.near_set g.shares.near_leads;
      only = g.shares.near_leads.only;
      adjacent = here.destination;
      adjacent_place = here.is;
      back_destination = there.destination;
      back_place = there.is;
      back_there = its-there far near g.far_well g.shares.far_set g.shares.far_leads;
      back_only = g.shares.far_leads.only;
      back_adjacent = there.destination;
      back_adjacent_place = there.is;
      near_grows = none-grow;
      far_grows = none-grow;
      start = ends.first_pair codes;
    }

-- the messages are for the two themselves
pub record AreOwn (c z : Configuration) (a : AreFacing c z) : Type 0 where
  pub there : a.base.there ≡ z.own
  pub back : a.base.back ≡ c.own

pub facing-own : (near far : Configuration) (g : AreSharing near far) → AreOwn near far (are-facing near far g)
unfolding are-facing
facing-own near far g = record { there = refl; back = refl }
