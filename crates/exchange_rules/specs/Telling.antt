-- HMRT, message routing (Q.704 §2.3): management that this node makes, or that a link left over when it failed.
use Rattle.std.specs.Prelude.{ℕ, ◌+◌, ◌*◌, ◌%◌, nat_eq, slice_index_or, slice_set, is_some, Option, Some, None, Bool, ◌&&◌, ◌||◌, not, nat_lt, List, [], ◌∷◌, Result, Ok, Err, if◌then◌else◌}
use Rattle.signalling_types.specs.Message.{Message, dpc_of, flow_of, opc_of, service_indicator}
use Rattle.settings.specs.Configuration.{Configuration}
use Rattle.signalling_types.specs.declared.cause.Cause.{Cause}
use Rattle.signalling_types.specs.declared.cause.Cause.TheVariants.{NoRoute}
use Rattle.signalling_types.specs.declared.notice.Notice.TheVariants as notices
use Rattle.mtp3_codec.specs.declared.management.Management.{Management}
use Rattle.mtp3_codec.specs.Management.{management_octets}
use Rattle.exchange_rules.specs.State.{◌▷◌, QueueKind, Parts, Node, with_parts, note, flagged, Done, answer}
use Rattle.exchange_rules.specs.Routing.{link_of, no_room, queue_on, facts, set_of, adjacent_of, point_of}
use Rattle.signalling_types.specs.declared.outcome.Outcome.{Outcome}
use Rattle.signalling_types.specs.declared.outcome.Outcome.TheVariants.{Handled, Ignored}
use Rattle.mtp3_codec.specs.declared.management.Management.TheVariants.{TransferProhibited, TransferRestricted, TransferAllowed, UserPartUnavailable}
use Rattle.mtp3_codec.specs.declared.unavailability.UnavailabilityCause.TheVariants.{Unequipped}
use Rattle.timers.specs.declared.name.TimerName.TheVariants.{T8}
use Rattle.timers.specs.Timers.{Running, set_timer, is_running}
use Rattle.routes.specs.declared.route.RouteStatus.{RouteStatus}
use Rattle.routes.specs.declared.route.RouteStatus.TheVariants.{Allowed, Restricted, Prohibited}
use Rattle.route_management.specs.declared.heard.RouteTest.{RouteTest}
use Rattle.route_management.specs.Told.{is_own_point, with_told, Owed, owed, owes_nothing}
use Rattle.route_management.specs.Told as hearing

-- the service information octet of a message made here: its service indicator, and the network of this node
abbrev pub own_sio : Configuration → ℕ → ℕ
own_sio c service_indicator = c.network * 64 + service_indicator

-- a management message of this node to a point
abbrev pub management_to : Configuration → ℕ → Management → Message
management_to c point message = record { sio = own_sio c 0; sif = management_octets point c.own message }

-- a management message is dropped, and that is noted
abbrev pub unsent : Cause → Message → Parts → Parts
unsent cause m p = p ▷ note (notices.Unsent cause (dpc_of m)) ▷ flagged

module _ {Q : Type 0} (q : QueueKind Q) (c : Configuration) where
  -- a management message goes out on a link; without room or a link it is dropped
  abbrev pub send : Option Cause → Option ℕ → Message → Node Q → Node Q
  send (Some cause) link m node = with_parts node (unsent cause m node.parts)
  send None None m node = with_parts node (unsent NoRoute m node.parts)
  send None (Some link) m node = queue_on q c link m node

  -- a message made here goes out on this link
  abbrev pub send_on : ℕ → Message → Node Q → Node Q
  send_on link m node = send (no_room q c m node.queues) (Some link) m node

  -- a message made here goes out on the link of its flow
  abbrev pub send_routed : Message → Node Q → Node Q
  send_routed m node = send (no_room q c m node.queues) (link_of c node.parts (flow_of m)) m node

  -- a message that has its room goes out on the link of its flow
  abbrev pub send_anew : Message → Node Q → Node Q
  send_anew m node = send None (link_of c node.parts (flow_of m)) m node

-- whether the flow of a message has a link
abbrev pub is_led : Configuration → Message → Parts → Bool
is_led c m p = is_some (link_of c p (flow_of m))

-- ---- RTPC, RTAC and RTRC, transfer prohibited, allowed and restricted control (Q.704 §13.2 to §13.4), and RSRT, route
-- set test control (§13.5): what adjacent points are told of routes, and how their tests are answered.

-- what is owed is told while the node has fewer management messages than this
abbrev pub told_below : ℕ
told_below = 128

-- the message that says a status of a point
abbrev pub telling : RouteStatus → (about : ℕ) → Management
telling Prohibited about = TransferProhibited about
telling Restricted about = TransferRestricted about
telling Allowed about = TransferAllowed about

-- the message to the adjacent point of a set that says a status of a destination
abbrev pub route_message : Configuration → (set destination : ℕ) → RouteStatus → Message
route_message c set destination status =
    management_to c (adjacent_of c set) (telling status (point_of c destination))

-- after transfer-prohibited T8 starts, or restarts
abbrev pub timed_telling : Configuration → (set destination : ℕ) → RouteStatus → Running → Running
timed_telling c set destination Prohibited r = set_timer (T8 set destination) c.timers.t8 r
timed_telling c set destination Restricted r = r
timed_telling c set destination Allowed r = r

abbrev pub inhibited : Configuration → (set destination : ℕ) → Parts → Parts
inhibited c set destination p = record p { timers = set_timer (T8 set destination) c.timers.t8 p.timers }

-- a point was told what it was owed
abbrev pub told_parts : Configuration → Owed → Parts → Parts
told_parts c o p = record p {
  told = with_told o.set o.destination o.status p.told;
  timers = timed_telling c o.set o.destination o.status p.timers;
}

-- a point was told what answers its test
abbrev pub answered_parts : (set destination : ℕ) → RouteStatus → Parts → Parts
answered_parts set destination status p = record p { told = with_told set destination status p.told }

-- whether no transfer-prohibited message about a destination goes out to the adjacent point of a set, for now or ever
abbrev pub is_inhibited : (set destination : ℕ) → Parts → Bool
is_inhibited set destination p = is_running (T8 set destination) p.timers || is_own_point p.told set destination

-- ---- TSFC, signalling traffic flow control (Q.704 §11.2.7): messages for user parts that aren't here.

-- of so many such messages from one point the first is answered
abbrev pub answered_once_in : ℕ
answered_once_in = 8

-- how many of them came from a destination, modulo that
abbrev pub unequipped_from : (origin : ℕ) → Parts → ℕ
unequipped_from origin p = slice_index_or p.unequipped origin 0

-- one more came from there
abbrev pub unequipped_counted : (origin : ℕ) → Parts → Parts
unequipped_counted origin p = record p {
  unequipped = slice_set p.unequipped origin ((unequipped_from origin p + 1) % answered_once_in);
}

-- what its sender is told: this point doesn't have the user part
abbrev pub unavailable : Configuration → Message → Message
unavailable c m = management_to c (opc_of m) (UserPartUnavailable c.own (service_indicator m) Unequipped)

module _ {Q : Type 0} (q : QueueKind Q) (c : Configuration) where
  -- whether the node has few enough management messages
  abbrev pub may_tell : Node Q → Bool
  may_tell node = nat_lt (q.managements node.queues) told_below

  -- ---- what is owed

  -- whether nothing is owed that there is room for
  abbrev pub is_all_told : Node Q → Bool
  is_all_told node = not (may_tell node) || owes_nothing (facts c node.parts) node.parts.told

  abbrev pub tell : Owed → Node Q → Node Q
  tell o node =
      send_routed q c (route_message c o.set o.destination o.status) (with_parts node (told_parts c o node.parts))

  -- what there is no room for stays owed
  abbrev pub tell_if : Owed → Node Q → Node Q
  tell_if o node = if may_tell node then tell o node else node

  abbrev pub tell_each : List Owed → Node Q → Node Q
  tell_each [] node = node
  tell_each (o ∷ os) node = node ▷ tell_if o ▷ tell_each os

  -- the end of each event: what is owed is told, by set and then by destination
  unfoldable pub tell_owed : Node Q → Node Q
  tell_owed node = tell_each (owed (facts c node.parts) node.parts.told) node

  -- ---- a message that has no route

  -- its sender is told at the other end of the link that it came by: transfer-prohibited
  abbrev pub prohibit : (set destination : ℕ) → Node Q → Node Q
  prohibit set destination node =
      send_routed q c (route_message c set destination Prohibited)
      (with_parts node (inhibited c set destination node.parts))

  -- none is made for want of room or of a link, nor does T8 start then
  abbrev pub prohibit_if : (set destination : ℕ) → Node Q → Node Q
  prohibit_if set destination node =
      if may_tell node && not (is_inhibited set destination node.parts)
      && is_led c (route_message c set destination Prohibited) node.parts
      then prohibit set destination node else node

  -- the link that it came by, if any, and its destination
  abbrev pub answer_no_route : (link destination : Option ℕ) → Node Q → Node Q
  answer_no_route (Some link) (Some destination) node = prohibit_if (set_of c link) destination node
  answer_no_route (Some link) None node = node
  answer_no_route None destination node = node

  -- ---- a message for a user part that isn't here

  -- whether one from this destination is answered: there is room, it is the first, and the answer has a link
  abbrev pub is_unequipped_told : (origin : ℕ) → Message → Node Q → Bool
  is_unequipped_told origin m node =
      may_tell node && nat_eq (unequipped_from origin node.parts) 0
      && is_led c (unavailable c m) node.parts

  abbrev pub send_if : Bool → Message → Node Q → Node Q
  send_if is_told m node = if is_told then send_routed q c m node else node

  -- it is counted, whether it is answered or not
  abbrev pub tell_unavailable : (origin : ℕ) → Message → Node Q → Node Q
  tell_unavailable origin m node =
      with_parts node (unequipped_counted origin node.parts)
      ▷ send_if (is_unequipped_told origin m node) (unavailable c m)

  -- the link that it came by, if any, and its origin, if that is a destination
  abbrev pub answer_no_user_part : (link origin : Option ℕ) → Message → Node Q → Node Q
  answer_no_user_part (Some link) (Some origin) m node =
      if c.user_part_unavailable then tell_unavailable origin m node else node
  answer_no_user_part (Some link) None m node = node
  answer_no_user_part None origin m node = node

  -- ---- tests

  -- a test is answered, if it is to be, and that counts as told; without a link it isn't answered
  abbrev pub send_route_status : Option RouteStatus → (set destination : ℕ) → Node Q → Node Q
  send_route_status (Some status) set destination node =
      if is_led c (route_message c set destination status) node.parts
      then send_routed q c (route_message c set destination status)
      (with_parts node (answered_parts set destination status node.parts))
      else node
  send_route_status None set destination node = node

  -- a test from the adjacent point of a set; one about that point itself is ignored
  abbrev pub answer_route_test : RouteTest → (set destination : ℕ) → Node Q → Done Q
  answer_route_test test set destination node =
      if is_own_point node.parts.told set destination
      then answer Ignored node
      else answer Handled
      (send_route_status
      (hearing.answer_to_test (facts c node.parts) node.parts.told set destination test) set destination node)

  -- a test by which an adjacent point asks about a route
  abbrev pub on_route_test : RouteTest → Result (ℕ × ℕ) Outcome → Node Q → Done Q
  on_route_test test (Ok (set, destination)) node = answer_route_test test set destination node
  on_route_test test (Err outcome) node = answer outcome node
