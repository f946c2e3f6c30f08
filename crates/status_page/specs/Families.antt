-- The families of metrics: their names, what is said of them, and what is in each.
use Rattle.std.specs.Prelude.{ℕ, List, [], ◌∷◌, map, codes}
use Rattle.served_link.specs.declared.counter.Counter.{Counter}
use Rattle.served_link.specs.declared.counter.Counter.TheVariants as counting
use Rattle.status_page.specs.Reasons.{causes, init_reasons, management_kinds, notice_kinds, reasons, services}
use Rattle.status_page.specs.Reasons.{try_reasons}
use Rattle.status_page.specs.declared.kind.Kind.{Kind}
use Rattle.status_page.specs.declared.kind.Kind.TheVariants.{Counter as Growing, Gauge}
use Rattle.status_page.specs.declared.family.Family.{Family}
use Rattle.status_page.specs.declared.family.Family.TheVariants.{Build, Uptime, LongestTurn, PoolLimit, Pool}
use Rattle.status_page.specs.declared.family.Family.TheVariants.{Held, Notices, Flags, Raised, Lost}
use Rattle.status_page.specs.declared.family.Family.TheVariants.{Broken, Rerouted, Alarms, DatagramsReceived, DatagramsSent}
use Rattle.status_page.specs.declared.family.Family.TheVariants.{Strangers, Accessible, Restricted, InUse, SetAvailable}
use Rattle.status_page.specs.declared.family.Family.TheVariants.{SetLinks, SetUnavailable, SetUnavailabilities, InService, ChangingOver}
use Rattle.status_page.specs.declared.family.Family.TheVariants.{Barred, LinkUnavailable, LinkUnavailabilities, LinkChangeovers, Queue, FramesReceived}
use Rattle.status_page.specs.declared.family.Family.TheVariants.{OctetsReceived, FramesSent, OctetsSent, Forwarded, Delivered}
use Rattle.status_page.specs.declared.family.Family.TheVariants.{MessagesReceived, MessagesSent, ManagementReceived, ManagementSent, Refused}
use Rattle.status_page.specs.declared.family.Family.TheVariants.{Failures, Retries, InitsRefused, TriesFailed, RoundTrip}
use Rattle.status_page.specs.declared.family.Family.TheVariants.{RetransmissionTimeout, CongestionWindow}
use Rattle.status_page.specs.declared.family.Family.TheVariants.{Retransmissions}
use Rattle.status_page.specs.declared.metric.Metric.{Metric}
use Rattle.status_page.specs.declared.metric.Metric.TheVariants.{Alarm, Node, Link, Set, Destination, Route}
use Rattle.status_page.specs.declared.metric.NodeMetric.TheVariants as of_node
use Rattle.status_page.specs.declared.metric.LinkMetric.TheVariants as of_link
use Rattle.status_page.specs.declared.metric.SetMetric.TheVariants as of_set
use Rattle.status_page.specs.declared.metric.DestinationMetric.TheVariants as of_destination

-- all families, in the order in which they are shown
abbrev pub families : List Family
families =
    Build ∷ Uptime ∷ LongestTurn ∷ PoolLimit ∷ Pool ∷ Held ∷ Notices ∷ Flags ∷ Raised ∷ Lost ∷ Broken ∷
    Rerouted ∷ Alarms ∷ DatagramsReceived ∷ DatagramsSent ∷ Strangers ∷ Accessible ∷ Restricted ∷ InUse ∷
    SetAvailable ∷ SetLinks ∷ SetUnavailable ∷ SetUnavailabilities ∷ InService ∷ ChangingOver ∷ Barred ∷
    LinkUnavailable ∷ LinkUnavailabilities ∷ LinkChangeovers ∷ Queue ∷ FramesReceived ∷ OctetsReceived ∷ FramesSent ∷
    OctetsSent ∷ Forwarded ∷ Delivered ∷ MessagesReceived ∷ MessagesSent ∷ ManagementReceived ∷
    ManagementSent ∷ Refused ∷ Failures ∷ Retries ∷ InitsRefused ∷ TriesFailed ∷ RoundTrip ∷
    RetransmissionTimeout ∷ CongestionWindow ∷ Retransmissions ∷ []

-- the name: a counter ends in total, and a unit is in the name
abbrev pub family_name : Family → List ℕ
family_name Build = codes "stp_build_info"
family_name Uptime = codes "stp_uptime_seconds"
family_name LongestTurn = codes "stp_longest_turn_seconds"
family_name PoolLimit = codes "stp_pool_limit_messages"
family_name Pool = codes "stp_pool_messages"
family_name Held = codes "stp_held_messages"
family_name Notices = codes "stp_notices_total"
family_name Flags = codes "stp_flag"
family_name Raised = codes "stp_flag_raised_total"
family_name Lost = codes "stp_messages_lost_total"
family_name Broken = codes "stp_changeovers_broken_total"
family_name Rerouted = codes "stp_flows_rerouted_total"
family_name Alarms = codes "stp_alarm_raised"
family_name DatagramsReceived = codes "stp_datagrams_received_total"
family_name DatagramsSent = codes "stp_datagrams_sent_total"
family_name Strangers = codes "stp_strangers_total"
family_name Accessible = codes "stp_destination_accessible"
family_name Restricted = codes "stp_destination_restricted"
family_name InUse = codes "stp_route_in_use"
family_name SetAvailable = codes "stp_set_available"
family_name SetLinks = codes "stp_set_links_in_service"
family_name SetUnavailable = codes "stp_set_unavailable_seconds_total"
family_name SetUnavailabilities = codes "stp_set_unavailabilities_total"
family_name InService = codes "stp_link_in_service"
family_name ChangingOver = codes "stp_link_changing_over"
family_name Barred = codes "stp_link_barred"
family_name LinkUnavailable = codes "stp_link_unavailable_seconds_total"
family_name LinkUnavailabilities = codes "stp_link_unavailabilities_total"
family_name LinkChangeovers = codes "stp_link_changeovers_total"
family_name Queue = codes "stp_queue_messages"
family_name FramesReceived = codes "stp_frames_received_total"
family_name OctetsReceived = codes "stp_octets_received_total"
family_name FramesSent = codes "stp_frames_sent_total"
family_name OctetsSent = codes "stp_octets_sent_total"
family_name Forwarded = codes "stp_messages_forwarded_total"
family_name Delivered = codes "stp_messages_delivered_total"
family_name MessagesReceived = codes "stp_messages_received_total"
family_name MessagesSent = codes "stp_messages_sent_total"
family_name ManagementReceived = codes "stp_management_received_total"
family_name ManagementSent = codes "stp_management_sent_total"
family_name Refused = codes "stp_refused_total"
family_name Failures = codes "stp_link_failures_total"
family_name Retries = codes "stp_connection_retries_total"
family_name InitsRefused = codes "stp_inits_refused_total"
family_name TriesFailed = codes "stp_tries_failed_total"
family_name RoundTrip = codes "stp_sctp_round_trip_seconds"
family_name RetransmissionTimeout = codes "stp_sctp_retransmission_timeout_seconds"
family_name CongestionWindow = codes "stp_sctp_congestion_window_octets"
family_name Retransmissions = codes "stp_sctp_retransmissions_total"

-- what is said of it
abbrev pub family_help : Family → List ℕ
family_help Build = codes "The version of the program; the value is always 1."
family_help Uptime = codes "Whole seconds since the start of the node."
family_help LongestTurn = codes "How long the longest turn of the node's loop took; what comes meanwhile waits."
family_help PoolLimit = codes "User messages that the node may keep."
family_help Pool = codes "User messages that the node keeps: of links those that aren't confirmed, and those held."
family_help Held = codes "User messages that are held until a flow may go on."
family_help Notices = codes "Notices since the start; missed are those whose kind nobody saw."
family_help Flags = codes "1 if the flag is raised: a message may be lost, or may have come late."
family_help Raised = codes "How often the flag was raised."
family_help Lost = codes "Messages that notices named as lost."
family_help Broken = codes "Changeovers of which it isn't known for sure what the peer has of the link."
family_help Rerouted = codes "How often a flow changed its link set, but away from its destination's own."
family_help Alarms = codes "1 if the alarm is raised, else 0; of destinations only those that are raised."
family_help DatagramsReceived = codes "Datagrams of links that came."
family_help DatagramsSent = codes "Datagrams of links that went out."
family_help Strangers = codes "Datagrams that came and are no link's; they get no answer."
family_help Accessible = codes "1 if messages may go to the destination, 0 if each route there is prohibited or out of service."
family_help Restricted = codes "1 if messages go to the destination by a restricted route, else 0."
family_help InUse = codes "1 if messages to the destination take the set, 0 if it leads there and they don't."
family_help SetAvailable = codes "1 if a link of the set is in service, else 0."
family_help SetLinks = codes "How many links of the set are in service."
family_help SetUnavailable = codes "How long no link of the set was in service, also before the first one was."
family_help SetUnavailabilities = codes "How often a link of the set was in service, and then none was."
family_help InService = codes "1 if the link is in service, else 0."
family_help ChangingOver = codes "1 if the link is down and its changeover isn't over, else 0."
family_help Barred = codes "1 if the link can't open until its changeover order is answered, else 0."
family_help LinkUnavailable = codes "How long the link wasn't in service, also before it first was."
family_help LinkUnavailabilities = codes "How often the link was in service, and then wasn't, whatever the reason."
family_help LinkChangeovers = codes "Changeovers of the link that are over."
family_help Queue = codes "Messages of the link that the peer hasn't confirmed, sent or not."
family_help FramesReceived = codes "Frames that came in on the link."
family_help OctetsReceived = codes "Octets of the frames that came in on the link."
family_help FramesSent = codes "Frames that went out on the link."
family_help OctetsSent = codes "Octets of the frames that went out on the link."
family_help Forwarded = codes "User messages from the link that were queued or held to go on."
family_help Delivered = codes "Messages from the link for a user part or a subsystem of the node."
family_help MessagesReceived = codes "Messages that came in on the link, by service indicator."
family_help MessagesSent = codes "Messages that went out on the link, by service indicator."
family_help ManagementReceived = codes "Management messages and link tests that came in on the link."
family_help ManagementSent = codes "Management messages and link tests that went out on the link."
family_help Refused = codes "Frames from the link that were refused, or whose message was."
family_help Failures = codes "Failures of the link."
family_help Retries = codes "Connections of the link that were tried again."
family_help InitsRefused = codes "INITs and INIT ACKs of the link that were refused or left out."
family_help TriesFailed = codes "Tries to open the link's association over SCTP that failed."
family_help RoundTrip = codes "The smoothed round trip of the link's association over SCTP: SRTT."
family_help RetransmissionTimeout = codes "The retransmission timeout of the link's association over SCTP: RTO."
family_help CongestionWindow = codes "The congestion window of the link's association over SCTP: cwnd."
family_help Retransmissions = codes "DATA chunks that the link's associations over SCTP sent again."

-- whether it only grows
abbrev pub kind_of : Family → Kind
kind_of Build = Gauge
kind_of Uptime = Gauge
kind_of LongestTurn = Gauge
kind_of PoolLimit = Gauge
kind_of Pool = Gauge
kind_of Held = Gauge
kind_of Notices = Growing
kind_of Flags = Gauge
kind_of Raised = Growing
kind_of Lost = Growing
kind_of Broken = Growing
kind_of Rerouted = Growing
kind_of Alarms = Gauge
kind_of DatagramsReceived = Growing
kind_of DatagramsSent = Growing
kind_of Strangers = Growing
kind_of Accessible = Gauge
kind_of Restricted = Gauge
kind_of InUse = Gauge
kind_of SetAvailable = Gauge
kind_of SetLinks = Gauge
kind_of SetUnavailable = Growing
kind_of SetUnavailabilities = Growing
kind_of InService = Gauge
kind_of ChangingOver = Gauge
kind_of Barred = Gauge
kind_of LinkUnavailable = Growing
kind_of LinkUnavailabilities = Growing
kind_of LinkChangeovers = Growing
kind_of Queue = Gauge
kind_of FramesReceived = Growing
kind_of OctetsReceived = Growing
kind_of FramesSent = Growing
kind_of OctetsSent = Growing
kind_of Forwarded = Growing
kind_of Delivered = Growing
kind_of MessagesReceived = Growing
kind_of MessagesSent = Growing
kind_of ManagementReceived = Growing
kind_of ManagementSent = Growing
kind_of Refused = Growing
kind_of Failures = Growing
kind_of Retries = Growing
kind_of InitsRefused = Growing
kind_of TriesFailed = Growing
kind_of RoundTrip = Gauge
kind_of RetransmissionTimeout = Gauge
kind_of CongestionWindow = Gauge
kind_of Retransmissions = Growing

-- what is behind each value: nothing, or the exponent of one that is in smaller units than its name says
abbrev pub exponent_of : Family → List ℕ
exponent_of Build = []
exponent_of Uptime = []
exponent_of LongestTurn = codes "e-6"
exponent_of PoolLimit = []
exponent_of Pool = []
exponent_of Held = []
exponent_of Notices = []
exponent_of Flags = []
exponent_of Raised = []
exponent_of Lost = []
exponent_of Broken = []
exponent_of Rerouted = []
exponent_of Alarms = []
exponent_of DatagramsReceived = []
exponent_of DatagramsSent = []
exponent_of Strangers = []
exponent_of Accessible = []
exponent_of Restricted = []
exponent_of InUse = []
exponent_of SetAvailable = []
exponent_of SetLinks = []
exponent_of SetUnavailable = codes "e-3"
exponent_of SetUnavailabilities = []
exponent_of InService = []
exponent_of ChangingOver = []
exponent_of Barred = []
exponent_of LinkUnavailable = codes "e-3"
exponent_of LinkUnavailabilities = []
exponent_of LinkChangeovers = []
exponent_of Queue = []
exponent_of FramesReceived = []
exponent_of OctetsReceived = []
exponent_of FramesSent = []
exponent_of OctetsSent = []
exponent_of Forwarded = []
exponent_of Delivered = []
exponent_of MessagesReceived = []
exponent_of MessagesSent = []
exponent_of ManagementReceived = []
exponent_of ManagementSent = []
exponent_of Refused = []
exponent_of Failures = []
exponent_of Retries = []
exponent_of InitsRefused = []
exponent_of TriesFailed = []
exponent_of RoundTrip = codes "e-3"
exponent_of RetransmissionTimeout = codes "e-3"
exponent_of CongestionWindow = []
exponent_of Retransmissions = []

abbrev pub type_name : Kind → List ℕ
type_name Growing = codes "counter"
type_name Gauge = codes "gauge"

-- a counter of each link
abbrev pub counted : Counter → Metric
counted what = Link (of_link.Counted what)

-- the metrics of a family, in the order in which they are shown
abbrev pub metrics_of : Family → List Metric
metrics_of Build = Node of_node.Build ∷ []
metrics_of Uptime = Node of_node.Uptime ∷ []
metrics_of LongestTurn = Node of_node.LongestTurn ∷ []
metrics_of PoolLimit = Node of_node.PoolLimit ∷ []
metrics_of Pool = Node of_node.Pool ∷ []
metrics_of Held = Node of_node.Held ∷ []
metrics_of Notices = map (λ kind. Node (of_node.Notices kind)) notice_kinds
metrics_of Flags = Node of_node.LostAny ∷ Node of_node.LateAny ∷ []
metrics_of Raised = Node of_node.TimesLost ∷ Node of_node.TimesLate ∷ []
metrics_of Lost = Node of_node.MessagesLost ∷ []
metrics_of Broken = Node of_node.TimesBroken ∷ []
metrics_of Rerouted = Node of_node.TimesRerouted ∷ []
metrics_of Alarms = Alarm ∷ []
metrics_of DatagramsReceived = Node of_node.DatagramsReceived ∷ []
metrics_of DatagramsSent = Node of_node.DatagramsSent ∷ []
metrics_of Strangers = Node of_node.Strangers ∷ []
metrics_of Accessible = Destination of_destination.Accessible ∷ []
metrics_of Restricted = Destination of_destination.Restricted ∷ []
metrics_of InUse = Route ∷ []
metrics_of SetAvailable = Set of_set.Available ∷ []
metrics_of SetLinks = Set of_set.LinksInService ∷ []
metrics_of SetUnavailable = Set of_set.UnavailableTime ∷ []
metrics_of SetUnavailabilities = Set of_set.Unavailabilities ∷ []
metrics_of InService = Link of_link.InService ∷ []
metrics_of ChangingOver = Link of_link.ChangingOver ∷ []
metrics_of Barred = Link of_link.Barred ∷ []
metrics_of LinkUnavailable = Link of_link.UnavailableTime ∷ []
metrics_of LinkUnavailabilities = Link of_link.Unavailabilities ∷ []
metrics_of LinkChangeovers = Link of_link.Changeovers ∷ []
metrics_of Queue = Link of_link.Waiting ∷ []
metrics_of FramesReceived = counted counting.FramesIn ∷ []
metrics_of OctetsReceived = counted counting.OctetsIn ∷ []
metrics_of FramesSent = counted counting.FramesOut ∷ []
metrics_of OctetsSent = counted counting.OctetsOut ∷ []
metrics_of Forwarded = counted counting.Forwarded ∷ []
metrics_of Delivered = counted counting.Delivered ∷ []
metrics_of MessagesReceived = map (λ service. Link (of_link.ServiceHeard service)) services
metrics_of MessagesSent = map (λ service. Link (of_link.ServiceSent service)) services
metrics_of ManagementReceived = map (λ kind. Link (of_link.ManagementHeard kind)) management_kinds
metrics_of ManagementSent = map (λ kind. Link (of_link.ManagementSent kind)) management_kinds
metrics_of Refused = map (λ cause. counted (counting.Refused cause)) causes
metrics_of Failures = map (λ reason. counted (counting.Failed reason)) reasons
metrics_of Retries = counted counting.Retries ∷ []
metrics_of InitsRefused = map (λ reason. counted (counting.Setbacks reason)) init_reasons
metrics_of TriesFailed = map (λ reason. counted (counting.Setbacks reason)) try_reasons
metrics_of RoundTrip = Link of_link.RoundTrip ∷ []
metrics_of RetransmissionTimeout = Link of_link.RetransmissionTimeout ∷ []
metrics_of CongestionWindow = Link of_link.CongestionWindow ∷ []
metrics_of Retransmissions = counted counting.Retransmissions ∷ []
