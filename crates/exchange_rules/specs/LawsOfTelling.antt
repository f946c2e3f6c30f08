-- What adjacent points are told of routes, and what the sender of a message without a route is: laws (Q.704 §13.2 to
-- §13.4).
use Rattle.std.specs.Prelude.{◌≡◌, ◌<◌, ◌^◌, ℕ, false, None, Ok, Some}
use Rattle.signalling_types.specs.Message.{Message, dpc_of, flow_of, network_indicator, service_indicator}
use Rattle.signalling_types.specs.declared.cause.Cause.TheVariants.{NoRoute}
use Rattle.signalling_types.specs.declared.outcome.Outcome.TheVariants.{Refused}
use Rattle.settings.specs.Configuration.{Configuration}
use Rattle.settings.specs.Readings.{destination_place}
use Rattle.mtp3_codec.specs.Headings.{label_at}
use Rattle.mtp3_codec.specs.Management.{read_management}
use Rattle.mtp3_codec.specs.declared.management.Management.TheVariants.{TransferAllowed, TransferProhibited}
use Rattle.mtp3_codec.specs.declared.management.Management.TheVariants.{TransferRestricted}
use Rattle.routes.specs.declared.route.RouteStatus.{RouteStatus}
use Rattle.routes.specs.declared.route.RouteStatus.TheVariants.{Allowed, Prohibited, Restricted}
use Rattle.route_management.specs.Told.{is_own_point}
use Rattle.timers.specs.declared.name.TimerName.TheVariants.{T8}
use Rattle.timers.specs.Timers.{is_running, set_timer}
use Rattle.exchange_rules.specs.State.{Node, with_parts}
use Rattle.exchange_rules.specs.Routing.{adjacent_of, link_of, point_of, queue_on, set_of, waits}
use Rattle.exchange_rules.specs.Telling.{route_message}
use Rattle.exchange_rules.specs.Messages.{no_room_for, transfer}
use Rattle.exchange_rules.specs.Queues.{WholeQueues, whole}

-- a message from this point to the adjacent point of a set reads as what it says of the way to a destination: TFP, TFR
-- or TFA
pub record ReadsAsStatus (c : Configuration) (set destination : ℕ) (status : RouteStatus) (m : Message) : Type 0 where
  pub indicator : service_indicator m ≡ 0
  pub network : network_indicator m ≡ c.network
  pub label : label_at m.sif ≡ record { dpc = adjacent_of c set; opc = c.own; sls = 0 }
  pub prohibited : status ≡ Prohibited → read_management m.sif ≡ Ok (TransferProhibited (point_of c destination))
  pub restricted : status ≡ Restricted → read_management m.sif ≡ Ok (TransferRestricted (point_of c destination))
  pub allowed : status ≡ Allowed → read_management m.sif ≡ Ok (TransferAllowed (point_of c destination))

abbrev pub statuses_are_told_as_such : Type 0
statuses_are_told_as_such =
    (c : Configuration) (set destination : ℕ) (status : RouteStatus) → c.own < 2 ^ 14 →
    adjacent_of c set < 2 ^ 14 → point_of c destination < 2 ^ 14 →
    ReadsAsStatus c set destination status (route_message c set destination status)

-- A message that came by a link finds no route. The point at the other end is to be told: fewer than 128 management
-- messages wait, T8 of the set and the destination doesn't run, and it isn't that point itself. TFP has a link.
pub record MayBeTold (c : Configuration) (link destination way : ℕ) (m : Message) (node : Node WholeQueues)
    : Type 0 where
  pub to : destination_place c (dpc_of m) ≡ Some destination
  pub room : no_room_for whole c m node ≡ None
  pub free : waits c node.parts.holds m ≡ false
  pub unrouted : link_of c node.parts (flow_of m) ≡ None
  pub few : whole.managements node.queues < 128
  pub idle : is_running (T8 (set_of c link) destination) node.parts.timers ≡ false
  pub other : is_own_point node.parts.told (set_of c link) destination ≡ false
  pub by : link_of c node.parts (flow_of (route_message c (set_of c link) destination Prohibited)) ≡ Some way

-- it is told, by one TFP at the end of the queue of that link, and T8 runs; the message is refused
pub record IsTold (c : Configuration) (link destination way : ℕ) (m : Message) (node : Node WholeQueues) : Type 0 where
  pub refused : (transfer whole c (Some link) m node).outcome ≡ Refused NoRoute
  pub told : (transfer whole c (Some link) m node).left
      ≡ queue_on whole c way (route_message c (set_of c link) destination Prohibited)
      (with_parts node
      (record node.parts {
        timers = set_timer (T8 (set_of c link) destination) c.timers.t8 node.parts.timers;
      }))

abbrev pub senders_without_route_are_told : Type 0
senders_without_route_are_told =
    (c : Configuration) (link destination way : ℕ) (m : Message) (node : Node WholeQueues) →
    MayBeTold c link destination way m node → IsTold c link destination way m node
