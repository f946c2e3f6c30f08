-- A network that was just booted stands for the first network of its settings.
use Rattle.std.proofs.Common.{◌≡◌, ℕ, suc, Bool, true, false, List, [], ◌∷◌, Option, Some, None, is_some, nat_eq, refl, ap, sym, subst, ◌∙◌}
use Rattle.std.specs.Prelude.{if◌then◌else◌, map, slice_get}
use Rattle.std.specs.Option.{option_map}
use Rattle.std.proofs.lemmas.Option.{slice_get-get_or}
use Rattle.settings.specs.Configuration.{Configuration, LinkEntry}
use Rattle.settings.specs.Sharing.{SharesSet}
use Rattle.settings.specs.Well.{IsWell}
use Rattle.exchange_rules.specs.First.{IsSound, first_state}
use Rattle.exchange_rules.specs.Routing.{adjacent_of, entry_of}
use Rattle.exchange.specs.Calls.{kept_of}
use Rattle.exchange.proofs.Standing.{stands-first}
use Rattle.network_rules.specs.Networks.{first_network, first_node}
use Rattle.network_rules.specs.Totals.{IsPlaced}
use Rattle.network_world.specs.Joined.{AreJoined, AreWell, are_apart, settings_at, settings_for, settings_or}
use Rattle.network_world.specs.KeptNodes.{KeptNode, kept_node_of}
use Rattle.network_world.specs.KeptNetworks.{kept_at, points_of}
use Rattle.network_world.specs.NetworkAnew.{RunsSince}
use Rattle.network_world.specs.NetworkPromised.{ShareAll}
use Rattle.network_world.specs.NetworkStands.{IsNodeAt, NetworkStandsFor}
use Rattle.network_world.proofs.FirstPoints.{for-listed, once-there, own}
use Rattle.network_world.proofs.NodePlaces.{equal}

pub first-sound : (c : Configuration) → IsWell c → IsSound (first_state c)
first-sound c well = (stands-first c (kept_of (first_state c)) well.window.below refl).sound

-- ---- the settings of a point

abbrev IsFor : (point : ℕ) → Configuration → Bool
IsFor point c = nat_eq c.own point

-- they are among the others, and for that point
record IsFound (settings : List Configuration) (point : ℕ) (c : Configuration) : Type 0 where
  pub place : ℕ
  pub at : slice_get settings place ≡ Some c
  pub own : c.own ≡ point

same-some : (x y : Configuration) → Some x ≡ Some y → x ≡ y
same-some x y e = cc

found : (settings : List Configuration) (point : ℕ) (c : Configuration) → settings_for settings point ≡ Some c → IsFound settings point c
found [] point c e = absurd cc
found (first ∷ settings) point c e = by (nat_eq first.own point) refl (found settings point c) e
  where
    by : (b : Bool) → nat_eq first.own point ≡ b → (settings_for settings point ≡ Some c → IsFound settings point c) → (if b then Some first else settings_for settings point) ≡ Some c
        → IsFound (first ∷ settings) point c
    by true f rest g =
        let same : first ≡ c = same-some first c g in
        record { place = 0; at = g; own = ap (λ (d : Configuration). d.own) (sym same) ∙ equal first.own point f }
    by false f rest g = let its : IsFound settings point c = rest g in record { place = suc its.place; at = its.at; own = its.own }

-- ---- the nodes that are booted

abbrev booted : Configuration → KeptNode
booted c = kept_node_of (first_node c)

pub points-same : (cs : List Configuration) → points_of (map booted cs) ≡ map own cs
points-same [] = refl
points-same (c ∷ cs) = ap (λ (rest : List ℕ). c.own ∷ rest) (points-same cs)

module _ (settings : List Configuration) (apart : are_apart settings ≡ true) (well : AreWell settings) where
  abbrev its : (point : ℕ) → Configuration
  its point = settings_at settings point

  own-by : (point : ℕ) (o : Option Configuration) → settings_for settings point ≡ o → (settings_or point o).own ≡ point
  own-by point None e = refl
  own-by point (Some c) e = (found settings point c e).own

  joined-by : AreJoined settings → (point link : ℕ) (l : LinkEntry) (o : Option Configuration) → settings_for settings point ≡ o → slice_get (settings_or point o).links link ≡ Some l
      → SharesSet (settings_or point o) (its (adjacent_of (settings_or point o) l.set))
  joined-by joined point link l None e is = absurd cc
  joined-by joined point link l (Some c) e is = let f : IsFound settings point c = found settings point c e in joined f.place c f.at link l is

  -- ---- the points

  abbrev points : List ℕ
  points = map own settings

  -- only those with settings are there
  well-listed : (point : ℕ) (o : Option Configuration) → settings_for settings point ≡ o → is_some o ≡ true → IsWell (settings_or point o)
  well-listed point (Some c) e is = let f : IsFound settings point c = found settings point c e in well f.place c f.at
  well-listed point None e is = absurd cc

  other-links : (point : ℕ) (o : Option Configuration) → is_some o ≡ false → (settings_or point o).links ≡ []
  other-links point None is = refl
  other-links point (Some c) is = absurd cc

  is-placed : IsPlaced its points
  is-placed = record {
    own = λ point. own-by point (settings_for settings point) refl;
    once = once-there settings apart;
    well = λ point e.
        well-listed point (settings_for settings point) refl (sym (for-listed settings point (settings_for settings point) refl) ∙ e);
    others = λ point e.
        other-links point (settings_for settings point) (sym (for-listed settings point (settings_for settings point) refl) ∙ e);
  }

  -- each link leads to a node with which its own shares a set, if they are joined
  pub first-share : AreJoined settings → ShareAll (first_network its)
  first-share joined = λ point link inside.
      joined-by joined point link (entry_of (its point) link) (settings_for settings point) refl
      (slice_get-get_or (its point).links link (record { name = []; set = 0; slc = 0; share = None }) inside)

  -- ---- the nodes

  kept-same : (cs : List Configuration) (point : ℕ) → kept_at point (map booted cs) ≡ option_map booted (settings_for cs point)
  kept-same [] point = refl
  kept-same (c ∷ cs) point = by (nat_eq c.own point) (kept-same cs point)
    where
      by : (b : Bool) → kept_at point (map booted cs) ≡ option_map booted (settings_for cs point)
          → (if b then Some (booted c) else kept_at point (map booted cs)) ≡ option_map booted (if b then Some c else settings_for cs point)
      by true rest = refl
      by false rest = rest

  node-by : (point : ℕ) (o : Option Configuration) → settings_for settings point ≡ o → IsNodeAt point (option_map booted o) (first_node (settings_or point o))
  node-by point None e = refl
  node-by point (Some c) e =
      let f : IsFound settings point c = found settings point c e in
      record { sound = first-sound c (well f.place c f.at); kept = refl }

  pub first-stands : NetworkStandsFor (map booted settings) (first_network its)
  first-stands = record {
    reached = record {
      settings = its;
      placed = subst (IsPlaced its) (sym (points-same settings)) is-placed;
      moves = [];
      by = refl;
    };
    nodes = λ point.
        subst (λ (o : Option KeptNode). IsNodeAt point o (first_node (its point))) (sym (kept-same settings point))
        (node-by point (settings_for settings point) refl);
  }

  -- and no change was made since
  pub first-runs : RunsSince (map booted settings) (first_network its) []
  first-runs = record {
    changed = record {
      settings = its;
      placed = subst (IsPlaced its) (sym (points-same settings)) is-placed;
      changes = [];
      by = refl;
    };
    nodes = first-stands.nodes;
  }
