-- What holds of holds.
use Rattle.std.specs.Prelude.{◌≡◌, ◌≢◌, ◌<◌, ◌↔◌, ◌&&◌, ◌||◌, ℕ, Bool, true, false}
use Rattle.std.specs.FinSet.{contains}
use Rattle.flow_hold.specs.declared.procedure.Procedure.{Procedure}
use Rattle.signalling_types.specs.declared.limits.TheConstants.Limits.{SELECTIONS}
use Rattle.flow_hold.specs.Holds.{Hold, HoldSet, no_holds, holds, is_held, may_hold, with_hold, lifted, NodeFlow, passes, any_flow, with_flows}

-- at first no procedure holds anything
abbrev pub first_holds_nothing : Type 0
first_holds_nothing =
    (links sets destinations : ℕ) (procedure : Procedure) (destination sls : ℕ) →
    holds (no_holds links sets destinations) procedure destination sls ≡ false

-- a flow is held exactly when some procedure holds it
abbrev pub held_by_a_procedure : Type 0
held_by_a_procedure =
    (h : HoldSet) (destination sls : ℕ) →
    (is_held h destination sls ≡ true) ↔ ((procedure : Procedure) × (holds h procedure destination sls ≡ true))

-- each procedure that holds a flow is one of the node that may hold it, and the flow is one of the node
pub record IsOfNode (h : HoldSet) : Type 0 where
  pub each : (hold : Hold) → contains h.pairs hold ≡ true →
      may_hold h hold.procedure hold.destination hold.sls ≡ true

abbrev pub first_is_of_node : Type 0
first_is_of_node = (links sets destinations : ℕ) → IsOfNode (no_holds links sets destinations)

-- ---- a hold

abbrev pub hold_is_of_node : Type 0
hold_is_of_node =
    (h : HoldSet) (procedure : Procedure) (destination sls : ℕ) → IsOfNode h →
    IsOfNode (with_hold h procedure destination sls)

-- a procedure holds the flow that it is to hold, if it may
abbrev pub hold_adds_its_pair : Type 0
hold_adds_its_pair =
    (h : HoldSet) (procedure : Procedure) (destination sls : ℕ) →
    may_hold h procedure destination sls ≡ true →
    holds (with_hold h procedure destination sls) procedure destination sls ≡ true

-- any other pair stays as it was: that of another procedure, another destination or another selection
abbrev pub pair : Procedure → (destination sls : ℕ) → Procedure × ℕ × ℕ
pair procedure destination sls = (procedure, destination, sls)

abbrev pub hold_leaves_others : Type 0
hold_leaves_others =
    (h : HoldSet) (procedure other : Procedure) (destination sls other_destination other_sls : ℕ) →
    pair other other_destination other_sls ≢ pair procedure destination sls →
    holds (with_hold h procedure destination sls) other other_destination other_sls
    ≡ holds h other other_destination other_sls

-- if it may not hold the flow, nothing changes
abbrev pub may_not_leaves : Type 0
may_not_leaves =
    (h : HoldSet) (procedure : Procedure) (destination sls : ℕ) →
    may_hold h procedure destination sls ≡ false → with_hold h procedure destination sls ≡ h

-- so that the flow is held
abbrev pub hold_holds_its_flow : Type 0
hold_holds_its_flow =
    (h : HoldSet) (procedure : Procedure) (destination sls : ℕ) →
    may_hold h procedure destination sls ≡ true →
    is_held (with_hold h procedure destination sls) destination sls ≡ true

-- and what was held stays held
abbrev pub hold_keeps_flows_held : Type 0
hold_keeps_flows_held =
    (h : HoldSet) (procedure : Procedure) (destination sls other_destination other_sls : ℕ) →
    is_held h other_destination other_sls ≡ true →
    is_held (with_hold h procedure destination sls) other_destination other_sls ≡ true

-- ---- a hold of all flows for which a test holds

-- the test holds for some flow: one to a destination that is there, with a selection
pub record IsAnyFlow (destinations : ℕ) (test : (destination sls : ℕ) → Bool) : Type 0 where
  pub flow : NodeFlow
  pub there : flow.destination < destinations
  pub selection : flow.sls < SELECTIONS
  pub passing : passes test flow ≡ true

abbrev pub some_flow_passes : Type 0
some_flow_passes =
    (destinations : ℕ) (test : (destination sls : ℕ) → Bool) →
    (any_flow destinations test ≡ true) ↔ IsAnyFlow destinations test

-- the procedure holds afterwards the flows that it held, and each that it may hold for which the test holds
abbrev pub flows_add_their_pairs : Type 0
flows_add_their_pairs =
    (h : HoldSet) (procedure : Procedure) (test : (destination sls : ℕ) → Bool) (destination sls : ℕ) →
    holds (with_flows h procedure test) procedure destination sls
    ≡ ((may_hold h procedure destination sls && test destination sls) || holds h procedure destination sls)

-- what other procedures hold stays
abbrev pub flows_leave_others : Type 0
flows_leave_others =
    (h : HoldSet) (procedure other : Procedure) (test : (destination sls : ℕ) → Bool) (destination sls : ℕ) →
    other ≢ procedure →
    holds (with_flows h procedure test) other destination sls ≡ holds h other destination sls

abbrev pub flows_are_of_node : Type 0
flows_are_of_node =
    (h : HoldSet) (procedure : Procedure) (test : (destination sls : ℕ) → Bool) → IsOfNode h →
    IsOfNode (with_flows h procedure test)

-- ---- a lift

abbrev pub lift_is_of_node : Type 0
lift_is_of_node = (h : HoldSet) (procedure : Procedure) → IsOfNode h → IsOfNode (lifted h procedure)

-- what other procedures hold stays if one is lifted
abbrev pub lift_leaves_others : Type 0
lift_leaves_others =
    (h : HoldSet) (procedure other : Procedure) (destination sls : ℕ) → procedure ≢ other →
    holds (lifted h procedure) other destination sls ≡ holds h other destination sls

-- and it holds nothing itself
abbrev pub lift_ends_its_own : Type 0
lift_ends_its_own =
    (h : HoldSet) (procedure : Procedure) (destination sls : ℕ) →
    holds (lifted h procedure) procedure destination sls ≡ false
