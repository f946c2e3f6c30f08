-- All metrics of a node, in Prometheus' text format 0.0.4.
use Rattle.std.specs.Prelude.{ℕ, List, [], ◌++◌, length, flat_map}
use Rattle.settings.specs.declared.point.PointFormat.{PointFormat}
use Rattle.exchange_rules.specs.State.{QueueKind, State}
use Rattle.console.specs.Names.{name_in, set_name_in}
use Rattle.status_page.specs.declared.family.Family.{Family}
use Rattle.status_page.specs.declared.metric.LinkMetric.{LinkMetric}
use Rattle.status_page.specs.declared.metric.SetMetric.{SetMetric}
use Rattle.status_page.specs.declared.metric.DestinationMetric.{DestinationMetric}
use Rattle.status_page.specs.declared.metric.Metric.{Metric}
use Rattle.status_page.specs.declared.metric.Metric.TheVariants.{Alarm, Node, Link, Set, Destination, Route}
use Rattle.status_page.specs.AlarmSamples.{alarm_samples}
use Rattle.status_page.specs.Each.{each}
use Rattle.status_page.specs.Facts.{NodeFacts}
use Rattle.status_page.specs.Families.{families, metrics_of}
use Rattle.status_page.specs.Measuring.{bit, destination_value, is_in_use, link_value, node_value, set_value}
use Rattle.status_page.specs.Places.{adjacent_text, adjacent_text_of, destination_text, set_name_of, sets_to}
use Rattle.status_page.specs.Samples.{destination_labels, head_text, link_labels, node_labels, route_labels, sample_text, set_labels, text_if}

-- ---- samples

unfoldable pub link_sample : {Q : Type 0} → QueueKind Q → State Q → NodeFacts → Family → LinkMetric → ℕ → List ℕ
link_sample q s f family metric k =
    text_if (link_value q metric s f k) family
    (link_labels metric (name_in s.settings k) (set_name_of s.settings k) (adjacent_text_of f.points s.settings k))

-- the samples of all links
abbrev pub link_samples : {Q : Type 0} → QueueKind Q → State Q → NodeFacts → Family → LinkMetric → List ℕ
link_samples q s f family metric = each (link_sample q s f family metric) (length s.settings.links)

unfoldable pub set_sample : {Q : Type 0} → QueueKind Q → State Q → NodeFacts → Family → SetMetric → ℕ → List ℕ
set_sample q s f family metric set =
    sample_text family (set_labels (set_name_in s.settings set) (adjacent_text f.points s.settings set))
    (set_value q metric s f set)

-- the samples of all sets
abbrev pub set_samples : {Q : Type 0} → QueueKind Q → State Q → NodeFacts → Family → SetMetric → List ℕ
set_samples q s f family metric = each (set_sample q s f family metric) (length s.settings.sets)

unfoldable pub destination_sample : {Q : Type 0} → PointFormat → State Q → Family → DestinationMetric → ℕ → List ℕ
destination_sample points s family metric destination =
    sample_text family (destination_labels (destination_text points s.settings destination))
    (destination_value metric s destination)

-- the samples of all destinations
abbrev pub destination_samples : {Q : Type 0} → PointFormat → State Q → Family → DestinationMetric → List ℕ
destination_samples points s family metric =
    each (destination_sample points s family metric) (length s.settings.destinations)

-- the sample of the route to a destination by a set
unfoldable pub route_sample : {Q : Type 0} → PointFormat → State Q → Family → (destination set : ℕ) → List ℕ
route_sample points s family destination set =
    sample_text family
    (route_labels (destination_text points s.settings destination) (set_name_in s.settings set)
    (adjacent_text points s.settings set))
    (bit (is_in_use s destination set))

-- the samples of the routes to a destination
unfoldable pub ways_text : {Q : Type 0} → PointFormat → State Q → Family → (destination : ℕ) → List ℕ
ways_text points s family destination =
    flat_map (route_sample points s family destination) (sets_to s.settings destination)

-- the samples of all routes
abbrev pub route_samples : {Q : Type 0} → PointFormat → State Q → Family → List ℕ
route_samples points s family = each (ways_text points s family) (length s.settings.destinations)

-- ---- families

-- the samples of a metric
unfoldable pub metric_text : {Q : Type 0} → QueueKind Q → State Q → NodeFacts → Family → Metric → List ℕ
metric_text q s f family (Node metric) = sample_text family (node_labels metric) (node_value q metric s f)
metric_text q s f family (Link metric) = link_samples q s f family metric
metric_text q s f family (Set metric) = set_samples q s f family metric
metric_text q s f family (Destination metric) = destination_samples f.points s family metric
metric_text q s f family Route = route_samples f.points s family
metric_text q s f family Alarm = alarm_samples s f family

-- a family: its head, and then its metrics
unfoldable pub family_text : {Q : Type 0} → QueueKind Q → State Q → NodeFacts → Family → List ℕ
family_text q s f family = head_text family ++ flat_map (metric_text q s f family) (metrics_of family)

abbrev pub families_text : {Q : Type 0} → QueueKind Q → State Q → NodeFacts → List Family → List ℕ
families_text q s f fs = flat_map (family_text q s f) fs

-- all metrics
unfoldable pub metrics_text : {Q : Type 0} → QueueKind Q → State Q → NodeFacts → List ℕ
metrics_text q s f = families_text q s f families
