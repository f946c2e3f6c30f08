-- Two ends with all their places, and the far end of a link between them.
use Rattle.std.proofs.Common.{◌≡◌, ◌<◌, ℕ, Bool, true, false, ◌&&◌, [], length, Option, Some, None, nat_eq}
use Rattle.std.specs.Prelude.{if◌then◌else◌}
use Rattle.std.specs.Option.{option_and_then}
use Rattle.std.proofs.lemmas.List.Quantifiers.{position-Some}
use Rattle.settings.specs.Configuration.{Configuration, LinkEntry}
use Rattle.settings.specs.Readings.{set_place}
use Rattle.exchange_rules.specs.Lasting.{HasAllPlaces}
use Rattle.exchange_rules.specs.Messages.{link_in_set, link_with_code}
use Rattle.exchange_rules.specs.Routing.{adjacent_of}
use Rattle.pair_rules.specs.Pairs.{End, PairState}
use Rattle.neighbour_rules.specs.Neighbours.{end_there}

-- each link of an end has its two lists of frames
pub record IsSized (e : End) : Type 0 where
  pub statuses : length e.incoming.statuses ≡ length e.exchange.settings.links
  pub user_data : length e.incoming.user_data ≡ length e.exchange.settings.links

pub record IsReady (p : PairState) : Type 0 where
  pub near_places : HasAllPlaces p.near.exchange.settings p.near.exchange.node
  pub far_places : HasAllPlaces p.far.exchange.settings p.far.exchange.node
  pub near_sized : IsSized p.near
  pub far_sized : IsSized p.far

-- ---- the far end of a link is there

there-by : (far : Configuration) (slc : ℕ) (set : Option ℕ) (other : ℕ) → option_and_then (link_in_set far slc) set ≡ Some other → other < length far.links
there-by far slc None other e = absurd cc
there-by far slc (Some set) other e =
    (position-Some (λ (l : LinkEntry). nat_eq l.set set && nat_eq l.slc slc) far.links other (record { name = []; set = 0; slc = 0; share = None }) e).0

pub far-there : (near far : Configuration) (l : Option LinkEntry) (other : ℕ) → end_there near far l ≡ Some other → other < length far.links
far-there near far None other e = absurd cc
far-there near far (Some l) other e = by (nat_eq (adjacent_of near l.set) far.own) e
  where
    by : (b : Bool) → (if b then link_with_code far near.own l.slc else None) ≡ Some other → other < length far.links
    by true f = there-by far l.slc (set_place far near.own) other f
    by false f = absurd cc
