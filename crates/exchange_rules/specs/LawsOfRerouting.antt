-- What the word of an adjacent point about a route does: laws (Q.704 §7, §8, §13).
use Rattle.std.specs.Prelude.{◌≡◌, ◌≢◌, ◌<◌, ℕ, true, max, length, Ok, Some}
use Rattle.signalling_types.specs.Message.{Message, opc_of, service_indicator}
use Rattle.signalling_types.specs.declared.outcome.Outcome.TheVariants.{Handled}
use Rattle.settings.specs.Configuration.{Configuration}
use Rattle.settings.specs.Readings.{destination_place, set_place}
use Rattle.mtp3_codec.specs.Management.{read_management}
use Rattle.mtp3_codec.specs.declared.management.Management.TheVariants.{TransferAllowed, TransferProhibited}
use Rattle.mtp3_codec.specs.declared.management.Management.TheVariants.{TransferRestricted}
use Rattle.routes.specs.declared.route.RouteStatus.{RouteStatus}
use Rattle.routes.specs.declared.route.RouteStatus.TheVariants.{Allowed, Prohibited, Restricted}
use Rattle.route_management.specs.Told.{heard}
use Rattle.route_management.specs.declared.heard.Heard.TheVariants.{Changed}
use Rattle.changeback.specs.Laws.{GoesToAnother}
use Rattle.flow_hold.specs.declared.procedure.Procedure.{Procedure}
use Rattle.flow_hold.specs.declared.procedure.Procedure.TheVariants.{Reroute}
use Rattle.flow_hold.specs.Holds.{holds}
use Rattle.timers.specs.declared.name.TimerName.TheVariants.{T10, T6}
use Rattle.exchange_rules.specs.State.{Node, Parts, answer, with_parts}
use Rattle.exchange_rules.specs.Routing.{facts}
use Rattle.exchange_rules.specs.Rerouting.{with_status_heard}
use Rattle.exchange_rules.specs.Messages.{distribute}
use Rattle.exchange_rules.specs.Queues.{WholeQueues, whole}
use Rattle.exchange_rules.specs.Lasting.{HasAllPlaces}

-- a message of the adjacent point of a set says by TFP, TFR or TFA what the status of a route is, and that is another
-- than before
pub record SaysStatus (c : Configuration) (m : Message) (set destination : ℕ) (status : RouteStatus)
    (node : Node WholeQueues) : Type 0 where
  pub indicator : service_indicator m ≡ 0
  pub from : set_place c (opc_of m) ≡ Some set
  pub about : ℕ
  pub place : destination_place c about ≡ Some destination
  pub prohibited : status ≡ Prohibited → read_management m.sif ≡ Ok (TransferProhibited about)
  pub restricted : status ≡ Restricted → read_management m.sif ≡ Ok (TransferRestricted about)
  pub allowed : status ≡ Allowed → read_management m.sif ≡ Ok (TransferAllowed about)
  pub other : heard (facts c node.parts) node.parts.told set destination status ≡ Changed

-- it is handled, and the route has that status
abbrev pub statuses_are_taken_as_said : Type 0
statuses_are_taken_as_said =
    (c : Configuration) (link set destination : ℕ) (status : RouteStatus) (m : Message) (node : Node WholeQueues) →
    SaysStatus c m set destination status node →
    distribute whole c link m node
    ≡ answer Handled (with_parts node (with_status_heard c set destination status node.parts))

-- By TFP flows go by other routes at once, and none is held for that. By TFR and TFA each flow to the destination that
-- goes from one link to another is held by the rerouting, and T6 is set; every other hold stays. T10 is set while the
-- route isn't allowed.
pub record IsRerouted (c : Configuration) (set destination : ℕ) (status : RouteStatus) (before after : Parts)
    : Type 0 where
  pub forced : status ≡ Prohibited → after.holds ≡ before.holds
  pub controlled : status ≢ Prohibited → (sls : ℕ) →
      GoesToAnother (facts c before) (facts c after) destination sls →
      (holds after.holds (Reroute destination) destination sls ≡ true)
      × (after.timers.left (T6 destination) ≡ Some (max 1 c.timers.t6))
  pub others : (procedure : Procedure) (other sls : ℕ) →
      (procedure ≡ Reroute destination → other ≡ destination →
      GoesToAnother (facts c before) (facts c after) destination sls → ⊥) →
      holds after.holds procedure other sls ≡ holds before.holds procedure other sls
  pub tested : status ≢ Allowed → after.timers.left (T10 set destination) ≡ Some (max 1 c.timers.t10)

abbrev pub flows_are_rerouted_by_status : Type 0
flows_are_rerouted_by_status =
    (c : Configuration) (set destination : ℕ) (status : RouteStatus) (node : Node WholeQueues) →
    HasAllPlaces c node → set < length c.sets → destination < length c.destinations →
    IsRerouted c set destination status node.parts (with_status_heard c set destination status node.parts)
