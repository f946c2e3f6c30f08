-- What holds of the flows that a link takes over, and of those that are rerouted.
use Rattle.std.specs.Prelude.{◌≡◌, ◌≢◌, ℕ, ◌<◌, true, List, All, Contains, length, slice_index_or, Option, Some, None}
use Rattle.routes.specs.Routes.{Facts, chosen_link}
use Rattle.flow_hold.specs.declared.procedure.Procedure.{Procedure}
use Rattle.flow_hold.specs.declared.procedure.Procedure.TheVariants.{Reroute}
use Rattle.signalling_types.specs.declared.limits.TheConstants.Limits.{SELECTIONS}
use Rattle.flow_hold.specs.Holds.{HoldSet, holds, is_held, may_hold}
use Rattle.changeback.specs.Return.{FlowChange, returned, held_by}
use Rattle.changeback.specs.Rerouting.{rerouted, held_for}

-- the flow is there, went by the link that it comes from, and goes by this one now
pub record IsMoved (to : ℕ) (before after : Facts) (c : FlowChange) : Type 0 where
  pub there : c.destination < length after.routes
  pub selection : c.sls < SELECTIONS
  pub was : chosen_link before c.destination c.sls ≡ Some c.from
  pub is : chosen_link after c.destination c.sls ≡ Some to
  pub other : c.from ≢ to

-- this holds for each flow that is taken over
abbrev pub each_is_moved : Type 0
each_is_moved = (to : ℕ) (before after : Facts) → All (IsMoved to before after) (returned to before after)

-- and each flow for which it holds is taken over
abbrev pub each_moved_is_found : Type 0
each_moved_is_found =
    (to : ℕ) (before after : Facts) (c : FlowChange) → IsMoved to before after c →
    Contains (returned to before after) c

-- a procedure is to hold a flow: there is a change of this flow, and the procedure holds what comes from its link
pub record IsToHold (holders : List (Option Procedure)) (cs : List FlowChange) (procedure : Procedure)
    (destination sls : ℕ) : Type 0 where
  pub change : FlowChange
  pub among : Contains cs change
  pub holder : slice_index_or holders change.from None ≡ Some procedure
  pub to : change.destination ≡ destination
  pub selection : change.sls ≡ sls

-- it holds that flow then, if it may
abbrev pub each_change_has_its_pair : Type 0
each_change_has_its_pair =
    (holders : List (Option Procedure)) (cs : List FlowChange) (h : HoldSet) (procedure : Procedure)
    (destination sls : ℕ) → IsToHold holders cs procedure destination sls →
    may_hold h procedure destination sls ≡ true →
    holds (held_by holders cs h) procedure destination sls ≡ true

-- and every other pair stays as it was
abbrev pub changes_leave_other_pairs : Type 0
changes_leave_other_pairs =
    (holders : List (Option Procedure)) (cs : List FlowChange) (h : HoldSet) (procedure : Procedure)
    (destination sls : ℕ) → (IsToHold holders cs procedure destination sls → ⊥) →
    holds (held_by holders cs h) procedure destination sls ≡ holds h procedure destination sls

-- ---- controlled rerouting

-- the flow went by one link, and goes by another
pub record GoesToAnother (before after : Facts) (destination sls : ℕ) : Type 0 where
  pub from : ℕ
  pub to : ℕ
  pub selection : sls < SELECTIONS
  pub was : chosen_link before destination sls ≡ Some from
  pub is : chosen_link after destination sls ≡ Some to
  pub other : from ≢ to

-- each flow that is rerouted does so
abbrev pub each_rerouted_goes_to_another : Type 0
each_rerouted_goes_to_another =
    (before after : Facts) (destination sls : ℕ) →
    Contains (rerouted before after destination) sls → GoesToAnother before after destination sls

-- each flow that does so is rerouted
abbrev pub each_that_goes_to_another_is_rerouted : Type 0
each_that_goes_to_another_is_rerouted =
    (before after : Facts) (destination sls : ℕ) →
    GoesToAnother before after destination sls → Contains (rerouted before after destination) sls

-- a flow that had no link isn't rerouted
abbrev pub unlinked_before_are_left : Type 0
unlinked_before_are_left =
    (before after : Facts) (destination sls : ℕ) →
    chosen_link before destination sls ≡ None → Contains (rerouted before after destination) sls → ⊥

-- nor is one that has none now
abbrev pub unlinked_after_are_left : Type 0
unlinked_after_are_left =
    (before after : Facts) (destination sls : ℕ) →
    chosen_link after destination sls ≡ None → Contains (rerouted before after destination) sls → ⊥

-- each flow that is rerouted is held by the rerouting of its destination, if that is there
abbrev pub each_rerouted_has_its_hold : Type 0
each_rerouted_has_its_hold =
    (before after : Facts) (destination sls : ℕ) (h : HoldSet) →
    Contains (rerouted before after destination) sls → destination < h.destinations →
    holds (held_for destination (rerouted before after destination) h) (Reroute destination) destination sls ≡ true

-- and every other pair stays as it was
abbrev pub rerouting_leaves_other_pairs : Type 0
rerouting_leaves_other_pairs =
    (destination : ℕ) (selections : List ℕ) (h : HoldSet) (procedure : Procedure) (other sls : ℕ) →
    (procedure ≡ Reroute destination → other ≡ destination → Contains selections sls → ⊥) →
    holds (held_for destination selections h) procedure other sls ≡ holds h procedure other sls

-- so each flow that is rerouted is held
abbrev pub each_rerouted_is_held : Type 0
each_rerouted_is_held =
    (before after : Facts) (destination sls : ℕ) (h : HoldSet) →
    Contains (rerouted before after destination) sls → destination < h.destinations →
    is_held (held_for destination (rerouted before after destination) h) destination sls ≡ true

-- and what was held stays held
abbrev pub rerouting_keeps_flows_held : Type 0
rerouting_keeps_flows_held =
    (destination : ℕ) (selections : List ℕ) (h : HoldSet) (other sls : ℕ) →
    is_held h other sls ≡ true → is_held (held_for destination selections h) other sls ≡ true
