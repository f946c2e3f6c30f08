-- What a failure holds: laws.
use Rattle.std.specs.Prelude.{◌≡◌, ◌≢◌, ◌<◌, ◌↔◌, ◌⊎◌, ℕ, true, false, drop, length, Contains, Some}
use Rattle.signalling_types.specs.Message.{Message, flow_of, is_management}
use Rattle.signalling_types.specs.declared.notice.FailureReason.{FailureReason}
use Rattle.settings.specs.Configuration.{Configuration}
use Rattle.settings.specs.Readings.{destination_place}
use Rattle.routes.specs.Routes.{chosen_link}
use Rattle.flow_hold.specs.declared.procedure.Procedure.{Procedure}
use Rattle.flow_hold.specs.declared.procedure.Procedure.TheVariants.{Changeover}
use Rattle.signalling_types.specs.declared.limits.TheConstants.Limits.{SELECTIONS}
use Rattle.flow_hold.specs.Holds.{holds}
use Rattle.exchange_rules.specs.State.{Node, in_service}
use Rattle.exchange_rules.specs.Routing.{facts}
use Rattle.exchange_rules.specs.Queues.{WholeQueues, queue_at, whole}
use Rattle.exchange_rules.specs.ChangingOver.{fail, fail_by_peer}
use Rattle.exchange_rules.specs.Places.{HasPlacesFor}

-- a user message of a flow is on a link, sent or not, and isn't confirmed
pub record HasUnconfirmed (c : Configuration) (node : Node WholeQueues) (link destination sls : ℕ) : Type 0 where
  pub message : Message
  pub stands : Contains (drop (queue_at node.queues link).confirmed (queue_at node.queues link).all) message
  pub user : is_management message ≡ false
  pub to : destination_place c (flow_of message).point ≡ Some destination
  pub selection : (flow_of message).sls ≡ sls

-- a flow fails with a link: its link is that one, or such a message of it is there
abbrev pub FailsWith : Configuration → Node WholeQueues → (link destination sls : ℕ) → Type 0
FailsWith c node link destination sls =
    (chosen_link (facts c node.parts) destination sls ≡ Some link) ⊎ HasUnconfirmed c node link destination sls

-- afterwards the changeover of the link holds each flow that it held, and each that failed with the link; what other
-- procedures hold stays
pub record IsFailure (c : Configuration) (link : ℕ) (before after : Node WholeQueues) : Type 0 where
  pub own : (destination sls : ℕ) → destination < length c.destinations → sls < SELECTIONS →
      (holds after.parts.holds (Changeover link) destination sls ≡ true)
      ↔ (FailsWith c before link destination sls ⊎ (holds before.parts.holds (Changeover link) destination sls ≡ true))
  pub others : (procedure : Procedure) (destination sls : ℕ) → procedure ≢ Changeover link →
      holds after.parts.holds procedure destination sls ≡ holds before.parts.holds procedure destination sls

-- this holds when a link in service fails, for a reason of its own or because its peer says so
abbrev pub failures_hold_their_flows : Type 0
failures_hold_their_flows =
    (c : Configuration) (link : ℕ) (why : FailureReason) (node : Node WholeQueues) → HasPlacesFor c node.parts →
    in_service node.parts link ≡ true → IsFailure c link node (fail whole c link why node)

abbrev pub failures_by_peer_hold_their_flows : Type 0
failures_by_peer_hold_their_flows =
    (c : Configuration) (link : ℕ) (node : Node WholeQueues) → HasPlacesFor c node.parts →
    in_service node.parts link ≡ true → IsFailure c link node (fail_by_peer whole c link node)

-- if a link wasn't in service, nothing is held
abbrev pub idle_failures_hold_nothing : Type 0
idle_failures_hold_nothing =
    (c : Configuration) (link : ℕ) (why : FailureReason) (node : Node WholeQueues) →
    in_service node.parts link ≡ false → (fail whole c link why node).parts.holds ≡ node.parts.holds

abbrev pub idle_failures_by_peer_hold_nothing : Type 0
idle_failures_by_peer_hold_nothing =
    (c : Configuration) (link : ℕ) (node : Node WholeQueues) →
    in_service node.parts link ≡ false → (fail_by_peer whole c link node).parts.holds ≡ node.parts.holds
