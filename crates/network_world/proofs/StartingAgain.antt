-- A node that starts again, or gives up following the other end of a link, does so in the abstract network.
use Rattle.std.proofs.Common.{◌≡◌, ℕ, List, Option, Some, None, is_some, refl, ap, sym, subst, ◌∙◌}
use Rattle.signalling_types.specs.declared.outcome.Outcome.TheVariants.{Handled}
use Rattle.settings.specs.Configuration.{Configuration}
use Rattle.settings.specs.Well.{IsWell}
use Rattle.pair_rules.specs.Pairs.{may_follow}
use Rattle.network_rules.specs.Anew.{Change, GivesUp, Restarts, given_up, restarted}
use Rattle.network_rules.specs.Networks.{NetworkNode, NetworkState, end_of, first_node}
use Rattle.network_world.specs.Joined.{no_settings}
use Rattle.network_world.specs.KeptAnew.{gave_up, kept_gives_up, kept_restarts, node_gives_up, node_restarts, one_at}
use Rattle.network_world.specs.KeptNodes.{KeptNode, kept_node_of, node_with}
use Rattle.network_world.specs.KeptNetworks.{one_turned, place_at, points_of}
use Rattle.network_world.specs.KeptSites.{first_site}
use Rattle.network_world.specs.NetworkAnew.{HasSettings, RunsSince, and_then, changed_if, since}
use Rattle.network_world.specs.NetworkStands.{IsNodeAt, has_node, if_there}
use Rattle.network_world.proofs.AsKept.{IsKept, own-point}
use Rattle.network_world.proofs.Listed.{listed-kept}
use Rattle.network_world.proofs.NetworkFirst.{first-sound}
use Rattle.network_world.proofs.NetworkSteps as steps
use Rattle.network_world.proofs.NetworkSteps.{IsTurn}
use Rattle.network_world.proofs.NodePlaces.{gets, keeps, keeps-none}
use Rattle.network_world.proofs.NodeRules.{IsNodeSame}
use Rattle.network_world.proofs.Runs.{goes-on, runs-kept}

-- whether it is done depends on whether a node is there alone
pub restart-outcome : (k : List KeptNode) (c : Configuration) → (kept_restarts c k).outcome ≡ if_there (has_node c.own k)
restart-outcome k c = by (place_at c.own k) refl
  where
    by : (o : Option ℕ) → place_at c.own k ≡ o → (one_at o (node_restarts c) k).outcome ≡ if_there (is_some o)
    by None e = refl
    by (Some place) e =
        ap (λ (o : Option KeptNode). (one_turned place (node_restarts c) o k).outcome) (gets k c.own place (kept_node_of (first_node c)) e)

module _ (k : List KeptNode) (w : NetworkState) (s : IsKept k w) where
  -- ---- it starts again

  module _ (c : Configuration) (same : HasSettings w c) where
    abbrev x : NetworkNode
    x = w.node c.own

    module _ (place : ℕ) (e : place_at c.own k ≡ Some place) where
      is-well : IsWell (s.settings c.own)
      is-well = s.placed.well c.own (listed-kept k c.own ∙ ap (λ (o : Option KeptNode). is_some o) (keeps k c.own place (kept_node_of x) e))

      x-well : IsWell x.exchange.settings
      x-well = subst IsWell (sym (s.fits c.own).settings) is-well

      restart-same : IsNodeSame (node_restarts c (kept_node_of x)) Handled (restarted x)
      restart-same = record {
        outcome_same = refl;
        node = record {
          sound = first-sound x.exchange.settings x-well;
          kept = ap (λ (d : Configuration). node_with (first_site d) (kept_node_of x)) (sym same);
        };
      }

    restart-by : (o : Option ℕ) → place_at c.own k ≡ o → IsTurn (points_of k) (one_at o (node_restarts c) k) (if_there (is_some o)) (changed_if (is_some o) (Restarts c.own) w)
    restart-by None e = record { outcome_same = refl; points_same = refl; nodes = s.nodes }
    restart-by (Some place) e =
        steps.one-by k w s c.own place e (node_restarts c) Handled restarted (restart-same place e) (own-point k w s c.own)

    pub restart-turn : IsTurn (points_of k) (kept_restarts c k) (if_there (has_node c.own k)) (changed_if (has_node c.own k) (Restarts c.own) w)
    restart-turn = restart-by (place_at c.own k) refl

  -- ---- it gives up following

  module _ (point link : ℕ) where
    abbrev y : NetworkNode
    y = w.node point

    give-by : (o : Option ℕ) → place_at point k ≡ o
        → IsTurn (points_of k) (one_at o (node_gives_up link) k) (gave_up (may_follow (end_of y) link)) (changed_if (is_some o) (GivesUp point link) w)
    give-by None e =
        let first : y ≡ first_node (no_settings point) = subst (λ (o : Option KeptNode). IsNodeAt point o y) (keeps-none k point e) (s.nodes point) in
        record {
          outcome_same = sym (ap (λ (z : NetworkNode). gave_up (may_follow (end_of z) link)) first);
          points_same = refl;
          nodes = s.nodes;
        }
    give-by (Some place) e =
        steps.one-by k w s point place e (node_gives_up link) (gave_up (may_follow (end_of y) link)) (given_up link)
        (record { outcome_same = refl; node = record { sound = steps.x-sound k w s point place e; kept = refl } }) (own-point k w s point)

    pub give-turn : IsTurn (points_of k) (kept_gives_up point link k) (gave_up (may_follow (end_of y) link)) (changed_if (has_node point k) (GivesUp point link) w)
    give-turn = give-by (place_at point k) refl

-- ---- since the books began anew

module _ (k : List KeptNode) (from : NetworkState) (changes : List Change) (s : RunsSince k from changes) where
  abbrev v : NetworkState
  v = since from changes

  abbrev its : IsKept k v
  its = runs-kept k from changes s

  pub restart-runs : (c : Configuration) → HasSettings v c → RunsSince (kept_restarts c k).left from (and_then (has_node c.own k) (Restarts c.own) changes)
  restart-runs c same = goes-on k from changes s (kept_restarts c k) (if_there (has_node c.own k)) (has_node c.own k) (Restarts c.own) (restart-turn k v its c same)

  pub give-outcome : (point link : ℕ) → (kept_gives_up point link k).outcome ≡ gave_up (may_follow (end_of (v.node point)) link)
  give-outcome point link = (give-turn k v its point link).outcome_same

  pub give-runs : (point link : ℕ) → RunsSince (kept_gives_up point link k).left from (and_then (has_node point k) (GivesUp point link) changes)
  give-runs point link =
      goes-on k from changes s (kept_gives_up point link k) (gave_up (may_follow (end_of (v.node point)) link)) (has_node point k) (GivesUp point link) (give-turn k v its point link)
