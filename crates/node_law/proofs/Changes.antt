-- Changes of a network, restarts among them, do what some changes of one of `node_moves` do.
use Rattle.std.proofs.Common.{◌≡◌, ◌≢◌, ◌<◌, ◌≤◌, ℕ, false, List, [], ◌∷◌, ◌++◌, length, map, refl, sym, subst, ◌∙◌, arith}
use Rattle.std.proofs.Math.Logic.{⊎_elim}
use Rattle.std.proofs.lemmas.Bool.{cases_eq, cases_lt}
use Rattle.std.proofs.lemmas.List.{get_or-set_same, get_or-set_other, get_or_past, length-set}
use Rattle.std.proofs.lemmas.List.Elements.{All-head, All-tail}
use Rattle.std.specs.Prelude.{All, slice_index_or, slice_set}
use Rattle.settings.specs.Configuration.{Configuration}
use Rattle.node_moves.specs.Anew as anew
use Rattle.node_moves.specs.Anew.{AreOfOthers, Does, after_changes}
use Rattle.node_moves.specs.Networks as nodes
use Rattle.node_moves.specs.Networks.{IsNode, updated}
use Rattle.node_moves.proofs.Flights.{updated-here, updated-other}
use Rattle.network_rules.specs.Anew.{Change, GivesUp, IsStepOrThird, Restarts, Steps, after_all, after_change, begun_anew, given_up, restarted}
use Rattle.network_rules.specs.Networks.{NetworkNode, NetworkState, Step, after_step, after_steps, first_node}
use Rattle.network_rules.specs.Totals.{IsPlaced}
use Rattle.network_rules.proofs.AllRuns.{did-keeps}
use Rattle.network_rules.proofs.Reached.{change-keeps}
use Rattle.node_law.proofs.Places.{node-listed}
use Rattle.node_law.proofs.Runs.{first-same, further, step-follows}
use Rattle.node_law.proofs.Same.{IsSame}
use Rattle.node_law.proofs.Steps.{AreKept, AreSame, Follows, both-changed}

-- ---- nodes that stay alike

-- a value is set in a list and in a function, which is that of places beyond the list
set-past : {A : Type 0} (xs : List A) (f : ℕ → A) (k : ℕ) (d : A) → ((j : ℕ) → slice_index_or xs j d ≡ f j) → (j : ℕ) → slice_index_or (slice_set xs k d) j d ≡ updated f k d j
set-past {A} xs f k d same j =
    ⊎_elim
    (λ (here : j ≡ k).
    subst (λ (i : ℕ). slice_index_or (slice_set xs k d) i d ≡ updated f k d i) (sym here)
    (⊎_elim (λ (inside : k < length xs). get_or-set_same xs k d d inside)
    (λ (past : length xs ≤ k). get_or_past (slice_set xs k d) k d (omega (arith, past, length-set xs k d)))
    (cases_lt k (length xs))
    ∙ sym (updated-here f k d)))
    (λ (away : j ≢ k). get_or-set_other xs k j d d away ∙ same j ∙ sym (updated-other f k d j away))
    (cases_eq j k)

module _ (c : Configuration) (x : NetworkNode) (y : nodes.NetworkNode) (h : IsSame c x y) where
  -- one that gives up following
  pub same-given-up : (link : ℕ) → IsSame c (given_up link x) (anew.given_up link y)
  same-given-up link = record {
    exchange = h.exchange;
    flight = record {
      status_links = h.flight.status_links;
      data_links = h.flight.data_links;
      following_links = length-set x.following link false ∙ h.flight.following_links;
      statuses = h.flight.statuses;
      user_data = h.flight.user_data;
      follows = set-past x.following y.follows link false h.flight.follows;
      silent = h.flight.silent;
    };
    books = h.books;
  }

  -- one whose books begin anew
  same-begun : IsSame c (record x { accepted = []; arrived = []; entered = []; refused = [] }) (record y { submitted = []; came = λ link. []; accepted = []; made = []; named = [] })
  same-begun = record { exchange = h.exchange; flight = h.flight; books = record { taken = refl; came = λ link. refl; within = tt } }

module _ (settings : (point : ℕ) → Configuration) (numbers : List ℕ) (placed : IsPlaced settings numbers) where
  -- one that starts again
  pub same-restarted : (point : ℕ) → IsNode settings point → (x : NetworkNode) (y : nodes.NetworkNode) → IsSame (settings point) x y → IsSame (settings point) (restarted x) (anew.restarted (settings point) y)
  same-restarted point fx x y h =
      let c : Configuration = settings point in
      let first : IsSame c (first_node c) (nodes.first_node c) = first-same settings numbers placed c (placed.well point (node-listed settings numbers placed point fx)) in
      subst (λ (d : Configuration). IsSame c (record (first_node d) { accepted = x.accepted; arrived = x.arrived; entered = x.entered; refused = x.refused }) (anew.restarted c y)) (sym h.exchange.settings)
      (record { exchange = first.exchange; flight = first.flight; books = h.books })

  pub all-begun : (w : NetworkState) (v : nodes.NetworkState) → AreSame settings w v → AreSame settings (begun_anew w) (anew.begun_anew v)
  all-begun w v h = record { each = λ point fx. same-begun (settings point) (w.node point) (v.node point) (h.each point fx) }

  -- ---- changes

  -- of those that aren't of two nodes, neither are these
  pub record FollowsAll (its : List Change) (w : NetworkState) (v : nodes.NetworkState) : Type 0 where
    pub changes : List anew.Change
    pub same : AreSame settings w (after_changes settings changes v)
    pub others : (near far : ℕ) → All (IsStepOrThird near far) its → AreOfOthers near far changes

  record FollowsOne (change : Change) (w : NetworkState) (v : nodes.NetworkState) : Type 0 where
    changes : List anew.Change
    same : AreSame settings w (after_changes settings changes v)
    others : (near far : ℕ) → IsStepOrThird near far change → AreOfOthers near far changes

  does-steps : (steps : List nodes.Step) (v : nodes.NetworkState) → after_changes settings (map Does steps) v ≡ nodes.after_steps settings steps v
  does-steps [] v = refl
  does-steps (step ∷ steps) v = does-steps steps (nodes.after_step settings step v)

  steps-of-others : (near far : ℕ) (steps : List nodes.Step) → AreOfOthers near far (map Does steps)
  steps-of-others near far [] = tt
  steps-of-others near far (step ∷ steps) = (tt, steps-of-others near far steps)

  both-others : (near far : ℕ) (one more : List anew.Change) → AreOfOthers near far one → AreOfOthers near far more → AreOfOthers near far (one ++ more)
  both-others near far [] more h g = g
  both-others near far (change ∷ one) more h g = (h.0, both-others near far one more h.1 g)

  changes-both : (one more : List anew.Change) (v : nodes.NetworkState) → after_changes settings (one ++ more) v ≡ after_changes settings more (after_changes settings one v)
  changes-both [] more v = refl
  changes-both (change ∷ one) more v = changes-both one more (anew.after_change settings change v)

  turned-apart : (near far point : ℕ) → (near ≢ point) × (far ≢ point) → (point ≢ near) × (point ≢ far)
  turned-apart near far point h = (λ e. h.0 (sym e), λ e. h.1 (sym e))

  one-follows : (change : Change) (w : NetworkState) (v : nodes.NetworkState) → AreKept settings w → AreSame settings w v → FollowsOne change (after_change change w) v
  one-follows (Steps step) w v kept h =
      let f : Follows settings (after_step step w) v = step-follows settings numbers placed w v kept h step.point step.what in
      record {
        changes = map Does f.steps;
        same = subst (AreSame settings (after_step step w)) (sym (does-steps f.steps v)) f.same;
        others = λ near far third. steps-of-others near far f.steps;
      }
  one-follows (Restarts point) w v kept h = record {
    changes = anew.Restarts point ∷ [];
    same =
        both-changed settings w v h point restarted (anew.restarted (settings point))
        (λ fx. same-restarted point fx (w.node point) (v.node point) (h.each point fx));
    others = λ near far third. (turned-apart near far point third, tt);
  }
  one-follows (GivesUp point link) w v kept h = record {
    changes = anew.GivesUp point link ∷ [];
    same =
        both-changed settings w v h point (given_up link) (anew.given_up link)
        (λ fx. same-given-up (settings point) (w.node point) (v.node point) (h.each point fx) link);
    others = λ near far third. (turned-apart near far point third, tt);
  }

  pub all-follow : (its : List Change) (w : NetworkState) (v : nodes.NetworkState) → AreKept settings w → AreSame settings w v → FollowsAll its (after_all its w) v
  all-follow [] w v kept h = record { changes = []; same = h; others = λ near far third. tt }
  all-follow (change ∷ its) w v kept h =
      let one : FollowsOne change (after_change change w) v = one-follows change w v kept h in
      let rest : FollowsAll its (after_all its (after_change change w)) (after_changes settings one.changes v) =
      all-follow its (after_change change w) (after_changes settings one.changes v) (λ point. change-keeps change w point ∙ kept point) one.same in
      record {
        changes = one.changes ++ rest.changes;
        same = subst (AreSame settings (after_all (change ∷ its) w)) (sym (changes-both one.changes rest.changes v)) rest.same;
        others = λ near far third.
            both-others near far one.changes rest.changes (one.others near far (All-head (IsStepOrThird near far) change its third)) (rest.others near far (All-tail (IsStepOrThird near far) change its third));
      }

  -- ---- steps alone

  pub steps-follow : (its : List Step) (w : NetworkState) (v : nodes.NetworkState) → AreKept settings w → AreSame settings w v → Follows settings (after_steps its w) v
  steps-follow [] w v kept h = record { steps = []; same = h }
  steps-follow (step ∷ its) w v kept h =
      let one : Follows settings (after_step step w) v = step-follows settings numbers placed w v kept h step.point step.what in
      let rest : Follows settings (after_steps its (after_step step w)) (nodes.after_steps settings one.steps v) =
      steps-follow its (after_step step w) (nodes.after_steps settings one.steps v) (λ point. did-keeps step.what step.point w point ∙ kept point) one.same in
      further settings numbers placed (after_step step w) (after_steps its (after_step step w)) v one rest
