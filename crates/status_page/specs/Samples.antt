-- The lines of metrics, in Prometheus' text format 0.0.4.
use Rattle.std.specs.Prelude.{ℕ, List, [], ◌++◌, codes, decimal, Option, None, Some}
use Rattle.signalling_types.specs.Causes.{cause_name}
use Rattle.signalling_types.specs.Notices.{failure_name}
use Rattle.served_link.specs.declared.counter.Counter.{Counter}
use Rattle.served_link.specs.declared.counter.Counter.TheVariants.{FramesIn, OctetsIn, FramesOut, OctetsOut}
use Rattle.served_link.specs.declared.counter.Counter.TheVariants.{Forwarded, Delivered, Refused, Failed, Retries}
use Rattle.served_link.specs.declared.counter.Counter.TheVariants.{Setbacks, Retransmissions}
use Rattle.served_link.specs.Kinds.{kind_name}
use Rattle.served_link.specs.Lines.{setback_name}
use Rattle.served_link.specs.declared.management_kind.ManagementKind.{ManagementKind}
use Rattle.status_page.specs.declared.family.Family.{Family}
use Rattle.status_page.specs.declared.labels.TheConstants.{VERSION}
use Rattle.status_page.specs.declared.metric.NodeMetric.{NodeMetric}
use Rattle.status_page.specs.declared.metric.NodeMetric.TheVariants as of_node
use Rattle.status_page.specs.declared.metric.LinkMetric.{LinkMetric}
use Rattle.status_page.specs.declared.metric.LinkMetric.TheVariants as of_link
use Rattle.status_page.specs.declared.noticed.NoticeKind.{NoticeKind}
use Rattle.status_page.specs.declared.noticed.NoticeKind.TheVariants as noticed
use Rattle.status_page.specs.Families.{exponent_of, family_name, family_help, kind_of, type_name}

-- the two lines before a family
abbrev pub head_text : Family → List ℕ
head_text family =
    codes "# HELP " ++ family_name family ++ codes " " ++ family_help family
    ++ codes "\n# TYPE " ++ family_name family ++ codes " " ++ type_name (kind_of family) ++ codes "\n"

-- the line of a sample
abbrev pub sample_text : Family → (labels : List ℕ) → (value : ℕ) → List ℕ
sample_text family labels value =
    family_name family ++ labels ++ codes " " ++ decimal value ++ exponent_of family ++ codes "\n"

-- the same, if there is a value
abbrev pub text_if : Option ℕ → Family → (labels : List ℕ) → List ℕ
text_if None family labels = []
text_if (Some value) family labels = sample_text family labels value

-- ---- labels

-- a kind is the word with which the line of a notice begins
abbrev pub kind_labels : NoticeKind → List ℕ
kind_labels noticed.Refused = codes "{kind=\"refused\"}"
kind_labels noticed.Frame = codes "{kind=\"frame\"}"
kind_labels noticed.Failed = codes "{kind=\"failed\"}"
kind_labels noticed.Lost = codes "{kind=\"lost\"}"
kind_labels noticed.Unsent = codes "{kind=\"unsent\"}"
kind_labels noticed.Expired = codes "{kind=\"expired\"}"
kind_labels noticed.Unbarred = codes "{kind=\"unbarred\"}"
kind_labels noticed.Late = codes "{kind=\"late\"}"
kind_labels noticed.Missed = codes "{kind=\"missed\"}"

abbrev pub node_labels : NodeMetric → List ℕ
node_labels of_node.Build = codes "{version=\"" ++ VERSION.now ++ codes "\"}"
node_labels of_node.Uptime = []
node_labels of_node.LongestTurn = []
node_labels of_node.PoolLimit = []
node_labels of_node.Pool = []
node_labels of_node.Held = []
node_labels (of_node.Notices kind) = kind_labels kind
node_labels of_node.LostAny = codes "{name=\"lost_any\"}"
node_labels of_node.LateAny = codes "{name=\"late_any\"}"
node_labels of_node.TimesLost = codes "{name=\"lost_any\"}"
node_labels of_node.TimesLate = codes "{name=\"late_any\"}"
node_labels of_node.MessagesLost = []
node_labels of_node.TimesBroken = []
node_labels of_node.TimesRerouted = []
node_labels of_node.DatagramsReceived = []
node_labels of_node.DatagramsSent = []
node_labels of_node.Strangers = []

-- the cause of a refusal, or the reason of a failure or a setback
abbrev pub counter_labels : Counter → List ℕ
counter_labels FramesIn = []
counter_labels OctetsIn = []
counter_labels FramesOut = []
counter_labels OctetsOut = []
counter_labels Forwarded = []
counter_labels Delivered = []
counter_labels (Refused cause) = codes ",cause=\"" ++ cause_name cause ++ codes "\""
counter_labels (Failed reason) = codes ",reason=\"" ++ failure_name reason ++ codes "\""
counter_labels Retries = []
counter_labels (Setbacks reason) = codes ",reason=\"" ++ setback_name reason ++ codes "\""
counter_labels Retransmissions = []

abbrev pub service_label : (service : ℕ) → List ℕ
service_label service = codes ",service=\"" ++ decimal service ++ codes "\""

abbrev pub kind_label : ManagementKind → List ℕ
kind_label kind = codes ",message=\"" ++ kind_name kind ++ codes "\""

-- the service indicator of messages, or their kind
abbrev pub metric_labels : LinkMetric → List ℕ
metric_labels of_link.InService = []
metric_labels of_link.ChangingOver = []
metric_labels of_link.Barred = []
metric_labels of_link.Waiting = []
metric_labels of_link.UnavailableTime = []
metric_labels of_link.Unavailabilities = []
metric_labels of_link.Changeovers = []
metric_labels (of_link.Counted counter) = counter_labels counter
metric_labels (of_link.ServiceHeard service) = service_label service
metric_labels (of_link.ServiceSent service) = service_label service
metric_labels (of_link.ManagementHeard kind) = kind_label kind
metric_labels (of_link.ManagementSent kind) = kind_label kind
metric_labels of_link.RoundTrip = []
metric_labels of_link.RetransmissionTimeout = []
metric_labels of_link.CongestionWindow = []

-- the name of a set, and the point that it leads to
abbrev pub set_pairs : (set adjacent : List ℕ) → List ℕ
set_pairs set adjacent = codes "set=\"" ++ set ++ codes "\",adjacent=\"" ++ adjacent ++ codes "\""

abbrev pub link_labels : LinkMetric → (link set adjacent : List ℕ) → List ℕ
link_labels metric link set adjacent =
    codes "{link=\"" ++ link ++ codes "\"," ++ set_pairs set adjacent ++ metric_labels metric ++ codes "}"

abbrev pub set_labels : (set adjacent : List ℕ) → List ℕ
set_labels set adjacent = codes "{" ++ set_pairs set adjacent ++ codes "}"

abbrev pub destination_labels : (destination : List ℕ) → List ℕ
destination_labels destination = codes "{destination=\"" ++ destination ++ codes "\"}"

abbrev pub route_labels : (destination set adjacent : List ℕ) → List ℕ
route_labels destination set adjacent =
    codes "{destination=\"" ++ destination ++ codes "\"," ++ set_pairs set adjacent ++ codes "}"
