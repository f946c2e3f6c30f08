-- States that a network comes to: the settings of its nodes stay, each node has its places and its links are steady,
-- and losses are counted on.
use Rattle.pair_rules.proofs.Basics.{◌≡◌, ◌≢◌, ◌<◌, ◌≤◌, ◌+◌, ◌-◌, ◌^◌, ℕ, Bool, true, false, List, [], ◌∷◌, refl, sym, subst, ◌∙◌, arith, nat_eq, if◌then◌else◌, ⊎_elim, cases_eq, cases_lt}
use Rattle.pair_rules.proofs.Definitions.{Configuration, IsWell, CameUp, FrameCame, Submitted}
use Rattle.exchange_rules.specs.State.{Asking, AsksWants, Happens, Takes}
use Rattle.exchange_rules.specs.First.{Abstract, first_state}
use Rattle.exchange_rules.specs.Lasting.{HasAllPlaces, after_each}
use Rattle.exchange_rules.specs.LastingLinks.{AreLinksSteady}
use Rattle.exchange_rules.proofs.LastingLinks.{links-first, links-stay}
use Rattle.exchange_rules.proofs.LastingPlaces.{places-first, places-stay}
use Rattle.network_rules.specs.Networks.{NetworkState, Step, after_step, after_steps, first_network}
use Rattle.neighbour_rules.specs.Anew.{Stays}
use Rattle.network_rules.specs.Totals.{IsJoined, is_listed}
use Rattle.network_rules.specs.Anew.{Change, GivesUp, HaveLostNothingSince, IsQuietNetwork, Restarts, Steps, after_all, after_change, begun_anew, given_up, restarted}
use Rattle.network_rules.proofs.AllRuns.{changed-keeps, did-keeps, steps-keep}
use Rattle.network_rules.proofs.Losing.{asked-counts}
use Rattle.network_rules.proofs.Turns.{Turn, comes, enters, goes_out, idles, occurs, opens, others-of, turn-of}

-- an exchange was asked something, or nothing
pub record WasAsked (a b : Abstract) : Type 0 where
  pub asked : List Asking
  pub is : b ≡ after_each asked a

turn-asked : (w v : NetworkState) (point : ℕ) → Turn w v point → WasAsked (w.node point).exchange (v.node point).exchange
turn-asked w v point (idles e) = record { asked = []; is = e.exchange }
turn-asked w v point (goes_out link e) = record { asked = Takes link ∷ []; is = e.exchange }
turn-asked w v point (occurs what plain e) = record { asked = Happens what ∷ []; is = e.exchange }
turn-asked w v point (enters m e) = record { asked = Happens (Submitted m) ∷ []; is = e.exchange }
turn-asked w v point (comes link text left f e) = record { asked = Happens (FrameCame link text) ∷ []; is = e.exchange }
turn-asked w v point (opens link f e) = record { asked = Happens (CameUp link) ∷ []; is = e.exchange }

pub step-asked : (step : Step) (w : NetworkState) (other : ℕ) → WasAsked (w.node other).exchange ((after_step step w).node other).exchange
step-asked step w other =
    ⊎_elim
    (λ (same : other ≡ step.point). subst (λ (k : ℕ). WasAsked (w.node k).exchange ((after_step step w).node k).exchange) (sym same) (turn-asked w (after_step step w) step.point (turn-of step.point w step.what)))
    (λ (apart : other ≢ step.point). record { asked = []; is = (others-of step.point w other apart step.what).exchange })
    (cases_eq other step.point)

-- ---- what holds of an exchange

pub record IsSteadyNode (a : Abstract) : Type 0 where
  pub places : HasAllPlaces a.settings a.node
  pub steady : AreLinksSteady a.settings.window a.node

asked-settings : (asked : List Asking) (a : Abstract) → (after_each asked a).settings ≡ a.settings
asked-settings [] a = refl
asked-settings (Happens what ∷ asked) a = asked-settings asked _
asked-settings (Takes link ∷ asked) a = asked-settings asked _
asked-settings (AsksWants link ∷ asked) a = asked-settings asked _

asked-steady : (asked : List Asking) (a : Abstract) → IsSteadyNode a → IsSteadyNode (after_each asked a)
asked-steady asked a h =
    let b : Abstract = after_each asked a in
    record {
      places = subst (λ (c : Configuration). HasAllPlaces c b.node) (sym (asked-settings asked a)) (places-stay asked a h.places);
      steady = subst (λ (c : Configuration). AreLinksSteady c.window b.node) (sym (asked-settings asked a)) (links-stay asked a h.places h.steady);
    }

step-steady : (step : Step) (w : NetworkState) (other : ℕ) → IsSteadyNode (w.node other).exchange → IsSteadyNode ((after_step step w).node other).exchange
step-steady step w other h =
    let a : WasAsked (w.node other).exchange ((after_step step w).node other).exchange = step-asked step w other in
    subst IsSteadyNode (sym a.is) (asked-steady a.asked (w.node other).exchange h)

steps-steady : (steps : List Step) (w : NetworkState) (other : ℕ) → IsSteadyNode (w.node other).exchange → IsSteadyNode ((after_steps steps w).node other).exchange
steps-steady [] w other h = h
steps-steady (step ∷ steps) w other h = steps-steady steps (after_step step w) other (step-steady step w other h)

-- ---- losses are counted on

step-counts : (step : Step) (w : NetworkState) (other k : ℕ) → k ≤ 2 ^ 64 - 1 → k ≤ (w.node other).exchange.node.parts.times_lost → k ≤ ((after_step step w).node other).exchange.node.parts.times_lost
step-counts step w other k few below =
    let a : WasAsked (w.node other).exchange ((after_step step w).node other).exchange = step-asked step w other in
    subst (λ (b : Abstract). k ≤ b.node.parts.times_lost) (sym a.is) (asked-counts a.asked (w.node other).exchange k few below)

steps-count : (steps : List Step) (w : NetworkState) (other k : ℕ) → k ≤ 2 ^ 64 - 1 → k ≤ (w.node other).exchange.node.parts.times_lost → k ≤ ((after_steps steps w).node other).exchange.node.parts.times_lost
steps-count [] w other k few below = below
steps-count (step ∷ steps) w other k few below = steps-count steps (after_step step w) other k few (step-counts step w other k few below)

-- what stays to the end stayed before
stays-before : (base times later : ℕ) → base ≤ times → (base + 1 ≤ 2 ^ 64 - 1 → base + 1 ≤ times → base + 1 ≤ later) → Stays base later → Stays base times
stays-before base times later below on s =
    ⊎_elim (λ (more : base < times). absurd (not-both base later (on (omega (arith, s.countable)) (omega (arith, more))) s.same))
    (λ (none : times ≤ base). record { countable = s.countable; same = omega (arith, below, none) }) (cases_lt base times)
  where
    not-both : (k n : ℕ) → k + 1 ≤ n → n ≡ k → ⊥
    not-both k n e f = omega (arith, e, f)

-- ---- a network after changes

pub change-keeps : (change : Change) (w : NetworkState) (other : ℕ) → ((after_change change w).node other).exchange.settings ≡ (w.node other).exchange.settings
change-keeps (Steps step) w other = did-keeps step.what step.point w other
change-keeps (Restarts point) w other = changed-keeps point restarted w (λ x. refl) other
change-keeps (GivesUp point link) w other = changed-keeps point (given_up link) w (λ x. refl) other

pub changes-keep : (changes : List Change) (w : NetworkState) (other : ℕ) → ((after_all changes w).node other).exchange.settings ≡ (w.node other).exchange.settings
changes-keep [] w other = refl
changes-keep (change ∷ changes) w other = changes-keep changes (after_change change w) other ∙ change-keeps change w other

first-steady : (c : Configuration) → IsWell c → IsSteadyNode (first_state c)
first-steady c well = record { places = places-first c well.link_count.below; steady = links-first c well.window.below }

change-steady : (change : Change) (w : NetworkState) (other : ℕ) → IsWell (w.node other).exchange.settings → IsSteadyNode (w.node other).exchange → IsSteadyNode ((after_change change w).node other).exchange
change-steady (Steps step) w other well h = step-steady step w other h
change-steady (Restarts point) w other well h = by (nat_eq other point)
  where
    by : (b : Bool) → IsSteadyNode (if b then restarted (w.node other) else w.node other).exchange
    by true = first-steady (w.node other).exchange.settings well
    by false = h
change-steady (GivesUp point link) w other well h = by (nat_eq other point)
  where
    by : (b : Bool) → IsSteadyNode (if b then given_up link (w.node other) else w.node other).exchange
    by true = h
    by false = h

changes-steady : (changes : List Change) (w : NetworkState) (other : ℕ) → IsWell (w.node other).exchange.settings → IsSteadyNode (w.node other).exchange → IsSteadyNode ((after_all changes w).node other).exchange
changes-steady [] w other well h = h
changes-steady (change ∷ changes) w other well h =
    changes-steady changes (after_change change w) other (subst IsWell (sym (change-keeps change w other)) well) (change-steady change w other well h)

-- ---- from a quiet network on

-- nothing is left in the network that these changes lead to
pub record Begins (settings : (point : ℕ) → Configuration) (points : List ℕ) : Type 0 where
  pub changes : List Change
  pub quiet : IsQuietNetwork points (after_all changes (first_network settings))

module _ (settings : (point : ℕ) → Configuration) (points : List ℕ) (h : IsJoined settings points) (start : Begins settings points) where
  abbrev pub begun : NetworkState
  begun = after_all start.changes (first_network settings)

  -- nothing may have been lost since
  abbrev pub Kept : NetworkState → Type 0
  Kept w = HaveLostNothingSince points begun w

  pub begun-kept : (point : ℕ) → (begun.node point).exchange.settings ≡ settings point
  begun-kept point = changes-keep start.changes (first_network settings) point

  pub begun-steady : (point : ℕ) → is_listed points point ≡ true → IsSteadyNode (begun.node point).exchange
  begun-steady point listed =
      changes-steady start.changes (first_network settings) point (h.placed.well point listed) (first-steady (settings point) (h.placed.well point listed))

  module _ (done : List Step) where
    abbrev pub reached : NetworkState
    reached = after_steps done (begun_anew begun)

    pub settings-kept : (point : ℕ) → (reached.node point).exchange.settings ≡ settings point
    settings-kept point = steps-keep done (begun_anew begun) point ∙ begun-kept point

    pub steady-node : (point : ℕ) → is_listed points point ≡ true → IsSteadyNode (reached.node point).exchange
    steady-node point listed = steps-steady done (begun_anew begun) point (begun-steady point listed)

    -- so it was before a step, if it is after it
    pub kept-before : (step : Step) → Kept (after_step step reached) → Kept reached
    kept-before step later point listed =
        let base : ℕ = (begun.node point).exchange.node.parts.times_lost in
        let its : Stays base ((after_step step reached).node point).exchange.node.parts.times_lost = later point listed in
        stays-before base (reached.node point).exchange.node.parts.times_lost ((after_step step reached).node point).exchange.node.parts.times_lost
        (steps-count done (begun_anew begun) point base (omega (arith, its.countable)) (omega arith)) (step-counts step reached point (base + 1)) its
