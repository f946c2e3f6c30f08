-- A network that has run on since its books began anew is kept; and whatever is done then is one change more.
use Rattle.std.proofs.Common.{◌≡◌, ℕ, Bool, true, false, List, [], ◌∷◌, ◌++◌, Option, Some, None, refl, ap, sym, subst, ◌∙◌}
use Rattle.std.specs.Prelude.{if◌then◌else◌}
use Rattle.std.specs.Option.{option_map}
use Rattle.signalling_types.specs.declared.outcome.Outcome.{Outcome}
use Rattle.pair_rules.specs.Pairs.{Doing}
use Rattle.network_rules.specs.Anew.{Change, Steps, after_all, after_change, begun_anew}
use Rattle.network_rules.specs.Networks.{NetworkNode, NetworkState, Step, first_network}
use Rattle.network_rules.specs.Totals.{IsPlaced}
use Rattle.network_world.specs.KeptAnew.{all_begin_anew, node_begins_anew}
use Rattle.network_world.specs.KeptNodes.{KeptNode}
use Rattle.network_world.specs.KeptNetworks.{NetworkTurn, is_at, kept_at, network_turn, points_of}
use Rattle.network_world.specs.NetworkAnew.{IsChanged, RunsSince, and_then, changed_if, since}
use Rattle.network_world.specs.NetworkStands.{IsNodeAt, has_node, step_outcome}
use Rattle.network_world.proofs.AsKept.{IsKept}
use Rattle.network_world.proofs.BooksAside.{aside, unbooked}
use Rattle.network_world.proofs.ChangedFits.{since-fits}
use Rattle.network_world.proofs.NetworkSteps.{AreNodes, IsTurn}
use Rattle.network_world.proofs.NetworkTurns.{turns}
use Rattle.network_world.proofs.PointsStay.{anew-points}

-- ---- lists of changes

changes-both : (changes more : List Change) (w : NetworkState) → after_all (changes ++ more) w ≡ after_all more (after_all changes w)
changes-both [] more w = refl
changes-both (change ∷ changes) more w = changes-both changes more (after_change change w)

pub since-then : (b : Bool) (change : Change) (changes : List Change) (from : NetworkState) → since from (and_then b change changes) ≡ changed_if b change (since from changes)
since-then true change changes from = changes-both changes (change ∷ []) (begun_anew from)
since-then false change changes from = refl

-- ---- a network that runs on

abbrev pub runs-kept : (k : List KeptNode) (from : NetworkState) (changes : List Change) → RunsSince k from changes → IsKept k (since from changes)
runs-kept k from changes s = record {
  settings = s.changed.settings;
  placed = s.changed.placed;
  fits = since-fits from s.changed changes;
  nodes = s.nodes;
}

module _ (k : List KeptNode) (from : NetworkState) (changes : List Change) (s : RunsSince k from changes) where
  pub goes-on : (t : NetworkTurn) (outcome : Outcome) (b : Bool) (change : Change) → IsTurn (points_of k) t outcome (changed_if b change (since from changes)) → RunsSince t.left from (and_then b change changes)
  goes-on t outcome b change turn = record {
    changed = subst (λ (points : List ℕ). IsChanged points from) (sym turn.points_same) s.changed;
    nodes = subst (λ (v : NetworkState). AreNodes t.left v) (sym (since-then b change changes from)) turn.nodes;
  }

  -- ---- a step

  module _ (what : Doing) (point : ℕ) where
    abbrev step : Step
    step = record { point = point; what = what }

    turn : IsTurn (points_of k) (network_turn what point k) (step_outcome (has_node point k) step (since from changes)) (changed_if (has_node point k) (Steps step) (since from changes))
    turn = turns k (since from changes) (runs-kept k from changes s) what point

    pub turn-outcome-since : (network_turn what point k).outcome ≡ step_outcome (has_node point k) step (since from changes)
    turn-outcome-since = turn.outcome_same

    pub turn-runs : RunsSince (network_turn what point k).left from (and_then (has_node point k) (Steps step) changes)
    turn-runs = goes-on (network_turn what point k) (step_outcome (has_node point k) step (since from changes)) (has_node point k) (Steps step) turn

  -- ---- its books begin anew

  abbrev w : NetworkState
  w = since from changes

  abbrev v : NetworkState
  v = after_all changes from

  kept-anew : (ns : List KeptNode) (point : ℕ) → kept_at point (all_begin_anew ns) ≡ option_map node_begins_anew (kept_at point ns)
  kept-anew [] point = refl
  kept-anew (n ∷ ns) point = by (is_at point n) (kept-anew ns point)
    where
      by : (b : Bool) → kept_at point (all_begin_anew ns) ≡ option_map node_begins_anew (kept_at point ns)
          → (if b then Some (node_begins_anew n) else kept_at point (all_begin_anew ns)) ≡ option_map node_begins_anew (if b then Some n else kept_at point ns)
      by true rest = refl
      by false rest = rest

  node-anew : (point : ℕ) (o : Option KeptNode) (x : NetworkNode) → IsNodeAt point o x → IsNodeAt point (option_map node_begins_anew o) (unbooked x)
  node-anew point (Some n) x is = record { sound = is.sound; kept = ap node_begins_anew is.kept }
  node-anew point None x is = ap unbooked is

  anew-same : begun_anew w ≡ begun_anew v
  anew-same = aside changes from

  pub anew-runs : RunsSince (all_begin_anew k) v []
  anew-runs = record {
    changed = record {
      settings = s.changed.settings;
      placed = subst (IsPlaced s.changed.settings) (sym (anew-points k)) s.changed.placed;
      changes = s.changed.changes ++ changes;
      by = ap (after_all changes) s.changed.by ∙ sym (changes-both s.changed.changes changes (first_network s.changed.settings));
    };
    nodes = λ point.
        subst (λ (o : Option KeptNode). IsNodeAt point o ((begun_anew v).node point)) (sym (kept-anew k point))
        (subst (λ (y : NetworkState). IsNodeAt point (option_map node_begins_anew (kept_at point k)) (y.node point)) anew-same
        (node-anew point (kept_at point k) (w.node point) (s.nodes point)));
  }
