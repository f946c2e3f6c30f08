-- TSRC, signalling routing control (Q.704 §2.3, §4.2): the links, sets and destinations of the settings, which link a
-- flow takes, and which flows are held.
use Rattle.std.specs.Prelude.{ℕ, false, [], slice_index_or, Option, Some, None, Result, Ok, Err, Bool, nat_eq, List, length, nat_le, if◌then◌else◌, ◌&&◌, ◌||◌, not}
use Rattle.signalling_types.specs.declared.cause.Cause.TheVariants.{UnknownDestination, PoolFull, ManagementFull, ShareFull}
use Rattle.signalling_types.specs.declared.outcome.Outcome.{Outcome}
use Rattle.signalling_types.specs.declared.outcome.Outcome.TheVariants.{Refused, Ignored}
use Rattle.settings.specs.Configuration.{Configuration, LinkEntry}
use Rattle.std.specs.Option.{option_and_then, option_map_or}
use Rattle.signalling_types.specs.declared.point.Flow.{Flow}
use Rattle.settings.specs.Readings.{destination_place}
use Rattle.routes.specs.Routes.{Facts, first_sets, chosen_link}
use Rattle.node_links.specs.NodeLinks.{Network, facts_of, first_network}
use Rattle.exchange_rules.specs.State.{Parts, QueueKind, Node}
use Rattle.signalling_types.specs.Message.{Message, is_management, flow_of}
use Rattle.signalling_types.specs.declared.limits.TheConstants.Limits.{MANAGEMENT_MESSAGES}
use Rattle.signalling_types.specs.declared.cause.Cause.{Cause}
use Rattle.std.specs.List.{list_all}
use Rattle.flow_hold.specs.Holds.{HoldSet, is_held}

-- the row of a link
abbrev pub entry_of : Configuration → (link : ℕ) → LinkEntry
entry_of c link = slice_index_or c.links link (record { name = []; set = 0; slc = 0; share = None })

-- its set
abbrev pub set_of : Configuration → (link : ℕ) → ℕ
set_of c link = (entry_of c link).set

-- the point that the links of a set lead to
abbrev pub adjacent_of : Configuration → (set : ℕ) → ℕ
adjacent_of c set = (slice_index_or c.sets set (record { name = []; adjacent = 0 })).adjacent

-- the point that a link leads to
abbrev pub peer_of : Configuration → (link : ℕ) → ℕ
peer_of c link = adjacent_of c (set_of c link)

abbrev pub point_of : Configuration → (destination : ℕ) → ℕ
point_of c destination =
    (slice_index_or c.destinations destination (record { point = 0; sets = []; joined = false })).point

-- what an adjacent point's message is about: the set that leads to that point, and the number of the destination
abbrev pub route_about : (set destination : Option ℕ) → Result (ℕ × ℕ) Outcome
route_about (Some set) (Some destination) = Ok (set, destination)
route_about None (Some destination) = Err Ignored
route_about set None = Err (Refused UnknownDestination)

-- ---- TSRC (Q.704 §2.3, §4.2): which link a flow takes.

-- the links of each set
abbrev pub sets_in : Configuration → List (List ℕ)
sets_in c = first_sets (length c.sets) c.links

-- the links, sets and routes of a node at first
abbrev pub first_network_of : Configuration → Network
first_network_of c = first_network (length c.sets) c.links c.destinations

-- the links, sets and routes of a node
abbrev pub network_of : Configuration → Parts → Network
network_of c p = record { links = p.links; sets = sets_in c; routes = p.routes }

-- what is known of routes
abbrev pub facts : Configuration → Parts → Facts
facts c p = facts_of (network_of c p)

-- the link of a flow: that of its destination and its selection
abbrev pub link_of : Configuration → Parts → Flow → Option ℕ
link_of c p flow =
    option_and_then (λ place. chosen_link (facts c p) place flow.sls) (destination_place c flow.point)

-- whether a link is that of a flow
abbrev pub goes_by : Option ℕ → (link : ℕ) → Bool
goes_by (Some its) link = nat_eq its link
goes_by None link = false

-- ---- HMRT, message routing (Q.704 §2.3): the room that a message needs, and the queue of a link.

module _ {Q : Type 0} (q : QueueKind Q) (c : Configuration) where
  -- why no more message of this kind has room, if none has
  abbrev pub no_room : Message → Q → Option Cause
  no_room m queues =
      if is_management m
      then (if nat_le MANAGEMENT_MESSAGES (q.managements queues) then Some ManagementFull else None)
      else (if nat_le c.pool (q.users queues) then Some PoolFull else None)

  -- whether a link has as many unconfirmed messages as its share of the pool, if the settings give it one
  abbrev pub is_share_full : (link : ℕ) → Q → Bool
  is_share_full link queues =
      option_map_or (λ share. nat_le share (length (q.unconfirmed queues link))) (entry_of c link).share false

  -- why a message finds no room in its link's share, if it finds none; a message that waits needs none there, nor does
  -- management
  abbrev pub no_room_on : (link : Option ℕ) → (is_waiting : Bool) → Message → Q → Option Cause
  no_room_on (Some link) is_waiting m queues =
      if is_share_full link queues && not (is_waiting || is_management m) then Some ShareFull else None
  no_room_on None is_waiting m queues = None

  -- a message at the end of the queue of a link
  abbrev pub queue_on : ℕ → Message → Node Q → Node Q
  queue_on link m node = record node { queues = q.appended node.queues link m }

-- ---- TSRC (Q.704 §5.4): flows that are held, and the messages of Held.

-- whether a flow to a destination, by its index in the settings, has a hold
abbrev pub is_held_at : HoldSet → Option ℕ → (sls : ℕ) → Bool
is_held_at holds (Some place) sls = is_held holds place sls
is_held_at holds None sls = false

abbrev pub is_flow_held : Configuration → HoldSet → Message → Bool
is_flow_held c holds m = is_held_at holds (destination_place c (flow_of m).point) (flow_of m).sls

-- a user message whose flow has a hold waits; management never does
abbrev pub waits : Configuration → HoldSet → Message → Bool
waits c holds m = not (is_management m) && is_flow_held c holds m

-- each of these messages waits
abbrev pub all_wait : Configuration → HoldSet → List Message → Bool
all_wait c holds ms = list_all (waits c holds) ms

module _ {Q : Type 0} (q : QueueKind Q) where
  -- a message at the end of Held
  abbrev pub hold : Message → Node Q → Node Q
  hold m node = record node { queues = q.holding node.queues m }
