-- Each node of a network that some changes led to, restarts among them, has all its places and its settings.
use Rattle.std.proofs.Common.{◌≡◌, ◌≤◌, ℕ, Bool, true, false, List, [], ◌∷◌, length, nat_eq, refl, sym, subst}
use Rattle.std.specs.Prelude.{if◌then◌else◌}
use Rattle.std.proofs.lemmas.List.{length-replicate}
use Rattle.settings.specs.Configuration.{Configuration}
use Rattle.signalling_types.specs.declared.limits.TheConstants.Limits.{LINKS}
use Rattle.exchange_rules.proofs.LastingPlaces.{places-first}
use Rattle.network_rules.specs.Anew.{Change, GivesUp, Restarts, Steps, after_all, after_change, begun_anew, given_up, restarted}
use Rattle.network_rules.specs.Networks.{NetworkNode, NetworkState, changed, first_network}
use Rattle.network_rules.proofs.Joined.{placed-well}
use Rattle.network_world.specs.NetworkAnew.{IsChanged, since}
use Rattle.network_world.proofs.NodeFits.{AllFit, FitsTo, did-fit, few-links, first-fits}
use Rattle.network_world.proofs.NodePlaces.{equal}

-- ---- at one node

restart-fits : (c : Configuration) → length c.links ≤ LINKS → (x : NetworkNode) → FitsTo c x → FitsTo c (restarted x)
restart-fits c few x f = record {
  settings = f.settings;
  fits = record {
    places = places-first x.exchange.settings (subst (λ (d : Configuration). length d.links ≤ LINKS) (sym f.settings) few);
    statuses = length-replicate (length x.exchange.settings.links) [];
    user_data = length-replicate (length x.exchange.settings.links) [];
  };
}

give-fits : (c : Configuration) (link : ℕ) (x : NetworkNode) → FitsTo c x → FitsTo c (given_up link x)
give-fits c link x f = record {
  settings = f.settings;
  fits = record { places = f.fits.places; statuses = f.fits.statuses; user_data = f.fits.user_data };
}

-- ---- at all

module _ (settings : (point : ℕ) → Configuration) (few : (point : ℕ) → length (settings point).links ≤ LINKS) where
  -- what is done at one point
  one-fits : (point : ℕ) (change : NetworkNode → NetworkNode) (w : NetworkState) → AllFit settings w → FitsTo (settings point) (change (w.node point)) → AllFit settings (changed point change w)
  one-fits point change w all here = λ other. by other (nat_eq other point) refl
    where
      by : (other : ℕ) (b : Bool) → nat_eq other point ≡ b → FitsTo (settings other) (if b then change (w.node other) else w.node other)
      by other true e = subst (λ (p : ℕ). FitsTo (settings p) (change (w.node p))) (sym (equal other point e)) here
      by other false e = all other

  change-fits : (change : Change) (w : NetworkState) → AllFit settings w → AllFit settings (after_change change w)
  change-fits (Steps step) w all = did-fit settings step.what step.point w all
  change-fits (Restarts point) w all = one-fits point restarted w all (restart-fits (settings point) (few point) (w.node point) (all point))
  change-fits (GivesUp point link) w all = one-fits point (given_up link) w all (give-fits (settings point) link (w.node point) (all point))

  pub changes-fit : (changes : List Change) (w : NetworkState) → AllFit settings w → AllFit settings (after_all changes w)
  changes-fit [] w all = all
  changes-fit (change ∷ changes) w all = changes-fit changes (after_change change w) (change-fits change w all)

-- without its books
anew-fits : (settings : (point : ℕ) → Configuration) (w : NetworkState) → AllFit settings w → AllFit settings (begun_anew w)
anew-fits settings w all = λ point.
    let f : FitsTo (settings point) (w.node point) = all point in
    record { settings = f.settings; fits = record { places = f.fits.places; statuses = f.fits.statuses; user_data = f.fits.user_data } }

-- ---- from the first on

few-at : {points : List ℕ} (from : NetworkState) (r : IsChanged points from) (point : ℕ) → length (r.settings point).links ≤ LINKS
few-at {points} from r point = few-links (r.settings point) (placed-well r.settings points r.placed point)

pub from-fits : {points : List ℕ} (from : NetworkState) (r : IsChanged points from) → AllFit r.settings from
from-fits from r =
    subst (λ (v : NetworkState). AllFit r.settings v) (sym r.by)
    (changes-fit r.settings (few-at from r) r.changes (first_network r.settings) (λ point. first-fits (r.settings point) (few-at from r point)))

pub since-fits : {points : List ℕ} (from : NetworkState) (r : IsChanged points from) (changes : List Change) → AllFit r.settings (since from changes)
since-fits from r changes = changes-fit r.settings (few-at from r) changes (begun_anew from) (anew-fits r.settings from (from-fits from r))
