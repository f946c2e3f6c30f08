-- The value of each metric.
use Rattle.std.specs.Prelude.{ℕ, zero, suc, ◌+◌, ◌/◌, Bool, true, false, ◌&&◌, ◌||◌, ◌==◌, not, nat_eq, nat_lt, count_by, drop, length, unwrap_or, List, slice_get, slice_index, slice_index_or, if◌then◌else◌, Option, None, Some}
use Rattle.std.specs.List.{list_any}
use Rattle.std.specs.Option.{option_map}
use Rattle.signalling_types.specs.Causes.{cause_number}
use Rattle.signalling_types.specs.declared.cause.Cause.{Cause}
use Rattle.signalling_types.specs.declared.cause.Cause.TheVariants.{PoolFull, ShareFull}
use Rattle.signalling_types.specs.Message.{Message, is_management}
use Rattle.signalling_types.specs.Numbers.{next_number}
use Rattle.cell_pool.specs.Lanes.{is_user_picked}
use Rattle.link.specs.Queue.{count_confirmed}
use Rattle.served_link.specs.declared.counter.Counter.{Counter}
use Rattle.served_link.specs.declared.counter.Counter.TheVariants as counting
use Rattle.served_link.specs.declared.association_status.AssociationStatus.{AssociationStatus}
use Rattle.served_link.specs.declared.management_kind.ManagementKind.{ManagementKind}
use Rattle.served_link.specs.declared.messages.LinkMessages.{LinkMessages}
use Rattle.served_link.specs.declared.messages.MessageCounts.{MessageCounts}
use Rattle.served_link.specs.declared.unavailable.Unavailable.{Unavailable}
use Rattle.served_link.specs.Kinds.{kind_number}
use Rattle.served_link.specs.Messages.{no_messages}
use Rattle.served_link.specs.ServiceStates.{at_start}
use Rattle.served_link.specs.declared.service_states.StateSince.{StateSince}
use Rattle.served_link.specs.Unavailable.{unavailable_by}
use Rattle.served_link.specs.declared.row.LinkCounters.{LinkCounters}
use Rattle.served_link.specs.Counting.{no_counts, saturated, value_of}
use Rattle.routes.specs.declared.route.RouteStatus.{RouteStatus}
use Rattle.routes.specs.declared.route.RouteStatus.TheVariants.{Allowed, Restricted, Prohibited}
use Rattle.exchange_rules.specs.State.{QueueKind, State, lost_any, late_any}
use Rattle.exchange.specs.declared.view.LinkStanding.{LinkStanding}
use Rattle.exchange.specs.declared.view.LinkStanding.TheVariants.{Down, NotAligned, Aligned, Proving}
use Rattle.exchange.specs.declared.view.LinkStanding.TheVariants.{AlignedReady, InService}
use Rattle.exchange.specs.declared.view.Obstacle.{Obstacle}
use Rattle.exchange.specs.declared.view.Obstacle.TheVariants.{Untested, PeerOutage, PeerBusy}
use Rattle.exchange.specs.Views.{link_view, may_restart_at, is_barred_at, obstacle_at, route_view}
use Rattle.status_page.specs.declared.metric.NodeMetric.{NodeMetric}
use Rattle.status_page.specs.declared.metric.NodeMetric.TheVariants as of_node
use Rattle.status_page.specs.declared.metric.LinkMetric.{LinkMetric}
use Rattle.status_page.specs.declared.metric.LinkMetric.TheVariants as of_link
use Rattle.status_page.specs.declared.metric.SetMetric.{SetMetric}
use Rattle.status_page.specs.declared.metric.SetMetric.TheVariants as of_set
use Rattle.status_page.specs.declared.metric.DestinationMetric.{DestinationMetric}
use Rattle.status_page.specs.declared.metric.DestinationMetric.TheVariants as of_destination
use Rattle.status_page.specs.Facts.{NodeFacts}
use Rattle.status_page.specs.Noticed.{kind_seen}
use Rattle.status_page.specs.Places.{is_of_set}

abbrev pub bit : Bool → ℕ
bit true = 1
bit false = 0

-- how many of these are user messages
abbrev pub count_user_messages : List Message → ℕ
count_user_messages messages = count_by (is_user_picked (λ m. not (is_management m))) messages

-- the user messages that are held
abbrev pub held_users : {Q : Type 0} → QueueKind Q → State Q → ℕ
held_users q s = count_user_messages (q.held s.node.queues)

-- ---- of a link; if there is no such link it is 0

abbrev pub is_service : LinkStanding → Bool
is_service Down = false
is_service NotAligned = false
is_service Aligned = false
is_service Proving = false
is_service AlignedReady = false
is_service InService = true

abbrev pub is_down : LinkStanding → Bool
is_down Down = true
is_down NotAligned = false
is_down Aligned = false
is_down Proving = false
is_down AlignedReady = false
is_down InService = false

-- what keeps user messages off a link in service (Q.704 §3.2): its first test hasn't passed, or the peer's processor is
-- out; a busy peer leaves it available
abbrev pub keeps_off : Option Obstacle → Bool
keeps_off None = false
keeps_off (Some Untested) = true
keeps_off (Some PeerOutage) = true
keeps_off (Some PeerBusy) = false

abbrev pub is_in_service : {Q : Type 0} → QueueKind Q → State Q → ℕ → Bool
is_in_service q s link =
    unwrap_or (option_map (λ v. is_service v.standing) (link_view q s link)) false && not (keeps_off (obstacle_at s link))

-- whether it is down, and its changeover isn't complete or an acknowledgement of its changeover order is awaited
abbrev pub is_changing_over : {Q : Type 0} → QueueKind Q → State Q → ℕ → Bool
is_changing_over q s link =
    unwrap_or (option_map (λ v. is_down v.standing && not (may_restart_at s link)) (link_view q s link)) false

-- how many messages of its queue aren't confirmed
abbrev pub waiting_on : {Q : Type 0} → QueueKind Q → State Q → ℕ → ℕ
waiting_on q s link = unwrap_or (option_map (λ v. v.waiting) (link_view q s link)) 0

-- how many messages of a link an FISU in sequence would confirm by its BSN
abbrev pub confirmed_by : {Q : Type 0} → QueueKind Q → State Q → (link bsn : ℕ) → ℕ
confirmed_by q s link bsn =
    count_confirmed (q.accept_answer s.node.queues link (q.last_accepted s.node.queues link) bsn false)

-- the user messages of a link's queue that aren't confirmed; the number that the next message gets confirms none of
-- them
abbrev pub users_on : {Q : Type 0} → QueueKind Q → State Q → ℕ → ℕ
users_on q s link =
    unwrap_or (option_map (λ v. count_user_messages
    (drop (confirmed_by q s link (next_number v.last_sent)) (q.unconfirmed s.node.queues link))) (link_view q s link)) 0

abbrev pub counters_at : List LinkCounters → ℕ → LinkCounters
counters_at rows link = unwrap_or (slice_get rows link) no_counts

abbrev pub messages_of : List LinkMessages → ℕ → LinkMessages
messages_of rows link = unwrap_or (slice_get rows link) no_messages

-- a link as it was last seen
abbrev pub seen_of : List StateSince → ℕ → StateSince
seen_of states link = unwrap_or (slice_get states link) at_start

-- how many messages were of a kind, or had a service indicator
abbrev pub kind_count : ManagementKind → MessageCounts → ℕ
kind_count kind counts = slice_index counts.kinds (kind_number kind)

abbrev pub service_count : (service : ℕ) → MessageCounts → ℕ
service_count service counts = slice_index_or counts.services service 0

-- for how many milliseconds something was unavailable by now, and how often it became so
abbrev pub unavailable_ms : (now : ℕ) → Option Unavailable → ℕ
unavailable_ms now None = 0
unavailable_ms now (Some u) = unavailable_by now u

abbrev pub unavailabilities : Option Unavailable → ℕ
unavailabilities None = 0
unavailabilities (Some u) = u.times

-- how the association of a link does, if it is over SCTP, and up
abbrev pub association_of : List (Option AssociationStatus) → (link : ℕ) → Option AssociationStatus
association_of associations link = slice_index_or associations link None

abbrev pub round_trip_of : Option AssociationStatus → Option ℕ
round_trip_of None = None
round_trip_of (Some a) = a.round_trip_ms

-- the causes that alerts name
abbrev pub is_watched : Cause → Bool
is_watched cause = (cause_number cause == cause_number PoolFull) || (cause_number cause == cause_number ShareFull)

-- whether a counter is shown while it is 0: not those that have a reason each, which are many, unless alerts name them
abbrev pub is_shown_at_zero : Counter → Bool
is_shown_at_zero counting.FramesIn = true
is_shown_at_zero counting.OctetsIn = true
is_shown_at_zero counting.FramesOut = true
is_shown_at_zero counting.OctetsOut = true
is_shown_at_zero counting.Forwarded = true
is_shown_at_zero counting.Delivered = true
is_shown_at_zero (counting.Refused cause) = is_watched cause
is_shown_at_zero (counting.Failed reason) = true
is_shown_at_zero counting.Retries = true
is_shown_at_zero (counting.Setbacks reason) = false
is_shown_at_zero counting.Retransmissions = true

-- a count, if it is shown
abbrev pub count_if : (is_shown_at_zero : Bool) → ℕ → Option ℕ
count_if is_shown_at_zero n = if is_shown_at_zero || nat_lt 0 n then Some n else None

-- the value of a metric of a link, if it has one that is shown
abbrev pub link_value : {Q : Type 0} → QueueKind Q → LinkMetric → State Q → NodeFacts → ℕ → Option ℕ
link_value q of_link.InService s f k = Some (bit (is_in_service q s k))
link_value q of_link.ChangingOver s f k = Some (bit (is_changing_over q s k))
link_value q of_link.Barred s f k = Some (bit (is_barred_at s k))
link_value q of_link.Waiting s f k = Some (waiting_on q s k)
link_value q of_link.UnavailableTime s f k = Some (unavailable_ms f.times.uptime_ms (slice_get f.link_times k))
link_value q of_link.Unavailabilities s f k = Some (unavailabilities (slice_get f.link_times k))
link_value q of_link.Changeovers s f k = Some (seen_of f.states k).changeovers
link_value q (of_link.Counted counter) s f k =
    count_if (is_shown_at_zero counter) (value_of counter (counters_at f.counters.links k))
link_value q (of_link.ServiceHeard service) s f k =
    count_if false (service_count service (messages_of f.counters.messages k).heard)
link_value q (of_link.ServiceSent service) s f k =
    count_if false (service_count service (messages_of f.counters.messages k).sent)
link_value q (of_link.ManagementHeard kind) s f k =
    count_if false (kind_count kind (messages_of f.counters.messages k).heard)
link_value q (of_link.ManagementSent kind) s f k =
    count_if false (kind_count kind (messages_of f.counters.messages k).sent)
link_value q of_link.RoundTrip s f k = round_trip_of (association_of f.associations k)
link_value q of_link.RetransmissionTimeout s f k = option_map (λ a. a.timeout_ms) (association_of f.associations k)
link_value q of_link.CongestionWindow s f k = option_map (λ a. a.congestion_window) (association_of f.associations k)

-- ---- of a set

-- 1 if a link is of a set and in service, else 0
abbrev pub serves_in : {Q : Type 0} → QueueKind Q → State Q → (link set : ℕ) → ℕ
serves_in q s link set = bit (is_of_set s.settings link set && is_in_service q s link)

-- how many of the first links are of a set and in service
abbrev pub serving_first : {Q : Type 0} → QueueKind Q → State Q → (set links : ℕ) → ℕ
serving_first q s set zero = 0
serving_first q s set (suc k) = saturated (serving_first q s set k + serves_in q s k set)

-- how many links of a set are in service
abbrev pub links_in_service : {Q : Type 0} → QueueKind Q → State Q → (set : ℕ) → ℕ
links_in_service q s set = serving_first q s set (length s.settings.links)

abbrev pub set_value : {Q : Type 0} → QueueKind Q → SetMetric → State Q → NodeFacts → (set : ℕ) → ℕ
set_value q of_set.Available s f set = bit (nat_lt 0 (links_in_service q s set))
set_value q of_set.LinksInService s f set = links_in_service q s set
set_value q of_set.UnavailableTime s f set = unavailable_ms f.times.uptime_ms (slice_get f.set_times set)
set_value q of_set.Unavailabilities s f set = unavailabilities (slice_get f.set_times set)

-- ---- of a destination and of a route; if there is no such destination it is 0

-- whether messages take routes of this status
abbrev pub is_open : RouteStatus → Bool
is_open Allowed = true
is_open Restricted = true
is_open Prohibited = false

abbrev pub is_restricted_status : RouteStatus → Bool
is_restricted_status Allowed = false
is_restricted_status Restricted = true
is_restricted_status Prohibited = false

abbrev pub is_accessible : {Q : Type 0} → State Q → (destination : ℕ) → Bool
is_accessible s destination = unwrap_or (option_map (λ v. is_open v.status) (route_view s destination)) false

abbrev pub is_restricted : {Q : Type 0} → State Q → (destination : ℕ) → Bool
is_restricted s destination = unwrap_or (option_map (λ v. is_restricted_status v.status) (route_view s destination)) false

abbrev pub destination_value : {Q : Type 0} → DestinationMetric → State Q → (destination : ℕ) → ℕ
destination_value of_destination.Accessible s destination = bit (is_accessible s destination)
destination_value of_destination.Restricted s destination = bit (is_restricted s destination)

abbrev pub has_set : (set : ℕ) → List ℕ → Bool
has_set set sets = list_any (λ it. nat_eq it set) sets

-- whether the messages to a destination take a set
abbrev pub is_in_use : {Q : Type 0} → State Q → (destination set : ℕ) → Bool
is_in_use s destination set = unwrap_or (option_map (λ v. has_set set v.sets.items) (route_view s destination)) false

-- ---- of the node

-- the user messages of the first links that aren't confirmed
abbrev pub users_on_first : {Q : Type 0} → QueueKind Q → State Q → (links : ℕ) → ℕ
users_on_first q s zero = 0
users_on_first q s (suc k) = saturated (users_on_first q s k + users_on q s k)

-- those of all links
abbrev pub users_on_links : {Q : Type 0} → QueueKind Q → State Q → ℕ
users_on_links q s = users_on_first q s (length s.settings.links)

-- the user messages that the node keeps: those of its links that aren't confirmed, and those that are held
abbrev pub kept_messages : {Q : Type 0} → QueueKind Q → State Q → ℕ
kept_messages q s = saturated (held_users q s + users_on_links q s)

-- the value of a metric of the node
abbrev pub node_value : {Q : Type 0} → QueueKind Q → NodeMetric → State Q → NodeFacts → ℕ
node_value q of_node.Build s f = 1
node_value q of_node.Uptime s f = f.times.uptime_ms / 1000
node_value q of_node.LongestTurn s f = f.times.longest_turn_us
node_value q of_node.PoolLimit s f = s.settings.pool
node_value q of_node.Pool s f = kept_messages q s
node_value q of_node.Held s f = held_users q s
node_value q (of_node.Notices kind) s f = kind_seen kind f.notices
node_value q of_node.LostAny s f = bit (lost_any s.node.parts)
node_value q of_node.LateAny s f = bit (late_any s.node.parts)
node_value q of_node.TimesLost s f = s.node.parts.times_lost
node_value q of_node.TimesLate s f = s.node.parts.times_late
node_value q of_node.MessagesLost s f = s.node.parts.messages_lost
node_value q of_node.TimesBroken s f = s.node.parts.times_broken
node_value q of_node.TimesRerouted s f = s.reroutings.times
node_value q of_node.DatagramsReceived s f = f.counters.datagrams.incoming
node_value q of_node.DatagramsSent s f = f.counters.datagrams.outgoing
node_value q of_node.Strangers s f = f.counters.datagrams.strangers
