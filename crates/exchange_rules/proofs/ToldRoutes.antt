-- What adjacent points are told of routes.
use Rattle.exchange_rules.proofs.Basics.{◌≡◌, ◌<◌, ◌&&◌, ◌||◌, ◌^◌, ◌*◌, ◌+◌, ◌/◌, ◌%◌, ℕ, Bool, true, false, not, Option, Some, None, ap, ◌∙◌, arith, nat_tests, nat_lt, nat_le, is_some, if◌then◌else◌}
use Rattle.exchange_rules.proofs.Definitions.{Configuration, Message, flow_of, Cause, ManagementFull, TransferAllowed, TransferProhibited, TransferRestricted, RouteStatus, Allowed, Prohibited, Restricted, Node, Done, with_parts, refuse, adjacent_of, point_of, set_of, link_of, no_room, send, waits, offer, no_room_for, transfer, answer_no_route, prohibit, inhibited, is_running, is_own_point, route_message, is_led, WholeQueues, whole}
use Rattle.signalling_types.specs.declared.cause.Cause.TheVariants as causes
use Rattle.mtp3_codec.proofs.Reading.{its-label, message-back}
use Rattle.timers.specs.declared.name.TimerName.TheVariants.{T8}
use Rattle.exchange_rules.specs.LawsOfTelling.{ReadsAsStatus, statuses_are_told_as_such, MayBeTold, IsTold, senders_without_route_are_told}
use Rattle.exchange_rules.proofs.OwnManagement.{made-management}

-- ---- what they say

own-indicator : (network : ℕ) → (network * 64 + 0) % 16 ≡ 0
own-indicator network = omega arith

own-network : (network : ℕ) → (network * 64 + 0) / 64 ≡ network
own-network network = omega arith

module _ (c : Configuration) (set destination : ℕ) (own : c.own < 2 ^ 14) (to : adjacent_of c set < 2 ^ 14) (about : point_of c destination < 2 ^ 14) where
  abbrev point : ℕ
  point = point_of c destination

  told-as : (status : RouteStatus) → ReadsAsStatus c set destination status (route_message c set destination status)
  told-as Prohibited = record {
    indicator = own-indicator c.network;
    network = own-network c.network;
    label = its-label (adjacent_of c set) c.own (TransferProhibited point) to own about;
    prohibited = λ e. message-back (adjacent_of c set) c.own (TransferProhibited point) to own about;
    restricted = λ e. absurd cc;
    allowed = λ e. absurd cc;
  }
  told-as Restricted = record {
    indicator = own-indicator c.network;
    network = own-network c.network;
    label = its-label (adjacent_of c set) c.own (TransferRestricted point) to own about;
    prohibited = λ e. absurd cc;
    restricted = λ e. message-back (adjacent_of c set) c.own (TransferRestricted point) to own about;
    allowed = λ e. absurd cc;
  }
  told-as Allowed = record {
    indicator = own-indicator c.network;
    network = own-network c.network;
    label = its-label (adjacent_of c set) c.own (TransferAllowed point) to own about;
    prohibited = λ e. absurd cc;
    restricted = λ e. absurd cc;
    allowed = λ e. message-back (adjacent_of c set) c.own (TransferAllowed point) to own about;
  }

pub told-as-such : statuses_are_told_as_such
told-as-such c set destination status own to about = told-as c set destination own to about status

-- ---- a message that finds no route

roomy : (managements : ℕ) → managements < 128 → nat_le 256 managements ≡ false
roomy managements few = grind (arith, nat_tests, few)

below : (managements : ℕ) → managements < 128 → nat_lt managements 128 ≡ true
below managements few = grind (arith, nat_tests, few)

module _ (c : Configuration) (link destination way : ℕ) (m : Message) (n : Node WholeQueues) (may : MayBeTold c link destination way m n) where
  abbrev set : ℕ
  set = set_of c link

  abbrev tfp : Message
  tfp = route_message c set destination Prohibited

  abbrev next : Node WholeQueues
  next = with_parts n (inhibited c set destination n.parts)

  offered : transfer whole c (Some link) m n ≡ refuse causes.NoRoute (answer_no_route whole c (Some link) (Some destination) n)
  offered =
      ap (λ (b : Bool). if b then offer whole c (no_room_for whole c m n) (waits c n.parts.holds m) (link_of c n.parts (flow_of m)) (Some link) m n else refuse causes.UnknownDestination n) (ap is_some may.to)
      ∙ ap (λ (room : Option Cause). offer whole c room (waits c n.parts.holds m) (link_of c n.parts (flow_of m)) (Some link) m n) may.room
      ∙ ap (λ (b : Bool). offer whole c None b (link_of c n.parts (flow_of m)) (Some link) m n) may.free
      ∙ ap (λ (its : Option ℕ). offer whole c None false its (Some link) m n) may.unrouted
      ∙ ap (λ (place : Option ℕ). refuse causes.NoRoute (answer_no_route whole c (Some link) place n)) may.to

  has-room : no_room whole c tfp n.queues ≡ None
  has-room =
      ap (λ (b : Bool). if b then (if nat_le 256 (whole.managements n.queues) then Some ManagementFull else None) else (if nat_le c.pool (whole.users n.queues) then Some causes.PoolFull else None))
      (made-management c (adjacent_of c set) (TransferProhibited (point_of c destination)))
      ∙ ap (λ (b : Bool). if b then Some ManagementFull else None) (roomy (whole.managements n.queues) may.few)

  prohibits : answer_no_route whole c (Some link) (Some destination) n ≡ send whole c None (Some way) tfp next
  prohibits =
      ap (λ (b : Bool). if b && not (is_running (T8 set destination) n.parts.timers || is_own_point n.parts.told set destination) && is_led c tfp n.parts then prohibit whole c set destination n else n) (below (whole.managements n.queues) may.few)
      ∙ ap (λ (b : Bool). if not (b || is_own_point n.parts.told set destination) && is_led c tfp n.parts then prohibit whole c set destination n else n) may.idle
      ∙ ap (λ (b : Bool). if not b && is_led c tfp n.parts then prohibit whole c set destination n else n) may.other
      ∙ ap (λ (its : Option ℕ). if is_some its then prohibit whole c set destination n else n) may.by
      ∙ ap (λ (cause : Option Cause). send whole c cause (link_of c n.parts (flow_of tfp)) tfp next) has-room
      ∙ ap (λ (its : Option ℕ). send whole c None its tfp next) may.by

  pub is-told : IsTold c link destination way m n
  is-told = record {
    refused = ap (λ (d : Done WholeQueues). d.outcome) offered;
    told = ap (λ (d : Done WholeQueues). d.left) offered ∙ prohibits;
  }

pub are-told : senders_without_route_are_told
are-told c link destination way m node may = is-told c link destination way m node may
