-- The state of a node, as JSON.
use Rattle.std.specs.Prelude.{ℕ, suc, ◌+◌, ◌-◌, ◌^◌, ◌%◌, List, [], ◌∷◌, ◌++◌, length, map, flat_map, codes, slice_index_or, Option, Some, None}
use Rattle.json.specs.Token.{Token, string}
use Rattle.signalling_types.specs.Causes.{cause_name}
use Rattle.signalling_types.specs.Notices.{failure_name}
use Rattle.settings.specs.Configuration.{Configuration, SetEntry}
use Rattle.settings.specs.Points.{point_text}
use Rattle.settings.specs.declared.point.PointFormat.{PointFormat}
use Rattle.routes.specs.Routes.{status_name}
use Rattle.routes.specs.declared.route.RouteStatus.{RouteStatus}
use Rattle.exchange_rules.specs.State.{QueueKind, State}
use Rattle.exchange.specs.declared.view.LinkView.{LinkView}
use Rattle.exchange.specs.declared.view.RouteView.{RouteView}
use Rattle.exchange.specs.Views.{link_view, is_barred_at, route_status, route_view, standing_name}
use Rattle.console.specs.Names.{name_in, set_name_in}
use Rattle.console.specs.Texts.{notice_line}
use Rattle.served_link.specs.declared.counter.Counter.{Counter}
use Rattle.served_link.specs.declared.counter.Counter.TheVariants.{FramesIn, OctetsIn, FramesOut, OctetsOut}
use Rattle.served_link.specs.declared.counter.Counter.TheVariants.{Forwarded, Delivered, Refused, Failed, Retries}
use Rattle.served_link.specs.declared.counter.Counter.TheVariants.{Setbacks, Retransmissions}
use Rattle.served_link.specs.Lines.{setback_name}
use Rattle.served_link.specs.declared.row.LinkCounters.{LinkCounters}
use Rattle.served_link.specs.Counting.{value_of}
use Rattle.served_link.specs.AlarmTexts.{alarm_name}
use Rattle.served_link.specs.Alarms.{alarm_at}
use Rattle.served_link.specs.ServiceStates.{state_words}
use Rattle.served_link.specs.declared.alarm.Alarm.{Alarm}
use Rattle.served_link.specs.declared.service_states.StateSince.{StateSince}
use Rattle.status_page.specs.Each.{each}
use Rattle.status_page.specs.Facts.{NodeFacts}
use Rattle.status_page.specs.declared.labels.TheConstants.{VERSION}
use Rattle.status_page.specs.declared.noticed.NoticeKind.{NoticeKind}
use Rattle.status_page.specs.declared.noticed.NoticeKind.TheVariants as noticed
use Rattle.status_page.specs.declared.noticed.NoticeLog.{NoticeLog}
use Rattle.status_page.specs.Reasons.{causes, init_reasons, notice_kinds, reasons, try_reasons}
use Rattle.status_page.specs.Measuring.{counters_at, held_users, is_changing_over, kept_messages, seen_of}
use Rattle.status_page.specs.Noticed.{kind_seen, time_of}
use Rattle.status_page.specs.Places.{set_name_of, sets_to}
use Rattle.status_page.specs.Members.{object, text_member, number_member, bool_member, object_member, array_member}
use Rattle.status_page.specs.declared.times.Times.{Times}

-- ---- counters

-- the member that shows a counter: for refusals the cause, for failures and setbacks the reason
abbrev pub counter_key : Counter → List ℕ
counter_key FramesIn = codes "frames_in"
counter_key OctetsIn = codes "octets_in"
counter_key FramesOut = codes "frames_out"
counter_key OctetsOut = codes "octets_out"
counter_key Forwarded = codes "forwarded"
counter_key Delivered = codes "delivered"
counter_key (Refused cause) = cause_name cause
counter_key (Failed reason) = failure_name reason
counter_key Retries = codes "retries"
counter_key (Setbacks reason) = setback_name reason
counter_key Retransmissions = codes "retransmissions"

abbrev pub counter_member : LinkCounters → Counter → List Token
counter_member row counter = number_member (counter_key counter) (value_of counter row)

abbrev pub counter_members : LinkCounters → List Counter → List Token
counter_members row counters = flat_map (counter_member row) counters

-- what is counted for a link as a whole
abbrev pub totals : List Counter
totals =
    FramesIn ∷ OctetsIn ∷ FramesOut ∷ OctetsOut ∷ Forwarded ∷ Delivered ∷ Retries ∷ Retransmissions ∷ []

-- all counters of a link: refusals by their cause; failures, INITs that were refused and tries that failed by their
-- reason
unfoldable pub all_counters : LinkCounters → List Token
all_counters row =
    counter_members row totals
    ++ object_member (codes "refused") (counter_members row (map (λ cause. Refused cause) causes))
    ++ object_member (codes "failed") (counter_members row (map (λ reason. Failed reason) reasons))
    ++ object_member (codes "inits") (counter_members row (map (λ reason. Setbacks reason) init_reasons))
    ++ object_member (codes "tries") (counter_members row (map (λ reason. Setbacks reason) try_reasons))

-- ---- links and sets

abbrev pub view_members : LinkView → List Token
view_members v =
    text_member (codes "state") (standing_name v.standing) ++ number_member (codes "waiting") v.waiting
    ++ number_member (codes "fsn") v.last_sent ++ number_member (codes "bsn") v.last_accepted

-- the names of a link and of its set
abbrev pub name_members : Configuration → (link : ℕ) → List Token
name_members c link = text_member (codes "name") (name_in c link) ++ text_member (codes "set") (set_name_of c link)

-- a link as it was last seen: its state in words, since when it is in that, and how many changeovers of it are over
abbrev pub seen_members : StateSince → List Token
seen_members seen =
    text_member (codes "service") (state_words seen.state) ++ number_member (codes "since_ms") seen.since_ms
    ++ number_member (codes "changeovers") seen.changeovers

-- a link, as it is shown, by its number
abbrev pub link_object : {Q : Type 0} → QueueKind Q → State Q → NodeFacts → ℕ → LinkView → List Token
link_object q s f k v =
    object (name_members s.settings k ++ view_members v
    ++ bool_member (codes "changing_over") (is_changing_over q s k)
    ++ bool_member (codes "barred") (is_barred_at s k)
    ++ seen_members (seen_of f.states k)
    ++ all_counters (counters_at f.counters.links k))

-- the same, if there is such a link
abbrev pub shown_link : {Q : Type 0} → QueueKind Q → State Q → NodeFacts → ℕ → Option LinkView → List Token
shown_link q s f k None = []
shown_link q s f k (Some v) = link_object q s f k v

unfoldable pub link_tokens : {Q : Type 0} → QueueKind Q → State Q → NodeFacts → ℕ → List Token
link_tokens q s f k = shown_link q s f k (link_view q s k)

-- a set, and the point that it leads to
abbrev pub set_tokens : PointFormat → SetEntry → List Token
set_tokens points set =
    object (text_member (codes "name") set.name ++ text_member (codes "adjacent") (point_text points set.adjacent))

-- ---- routes

abbrev pub set_names : Configuration → List ℕ → List Token
set_names c sets = flat_map (λ set. string (set_name_in c set) ∷ []) sets

-- a status in words; - if there is no such route
abbrev pub way_status : Option RouteStatus → List ℕ
way_status (Some status) = status_name status
way_status None = codes "-"

-- the statuses of the routes over these sets
unfoldable pub way_statuses : {Q : Type 0} → State Q → (destination : ℕ) → List ℕ → List Token
way_statuses s destination ways = flat_map (λ way. string (way_status (route_status s destination way)) ∷ []) ways

-- a destination, the sets that messages take to it, all that lead there, the statuses of the routes over these, and the
-- status of those that messages take
abbrev pub route_object :
    {Q : Type 0} → PointFormat → Configuration → State Q → (destination : ℕ) → (ways : List ℕ) → RouteView → List Token
route_object points c s destination ways v =
    object (text_member (codes "point") (point_text points v.point)
    ++ array_member (codes "sets") (set_names c v.sets.items)
    ++ array_member (codes "ways") (set_names c ways)
    ++ array_member (codes "way_statuses") (way_statuses s destination ways)
    ++ text_member (codes "status") (status_name v.status))

abbrev pub shown_route :
    {Q : Type 0} → PointFormat → Configuration → State Q → (destination : ℕ) → (ways : List ℕ) → Option RouteView → List Token
shown_route points c s destination ways None = []
shown_route points c s destination ways (Some v) = route_object points c s destination ways v

unfoldable pub route_tokens : {Q : Type 0} → PointFormat → State Q → ℕ → List Token
route_tokens points s k = shown_route points s.settings s k (sets_to s.settings k) (route_view s k)

-- ---- notices

-- the number of a notice that is kept, by its index from the oldest: the last has as many as there were
abbrev pub notice_number : {Q : Type 0} → State Q → ℕ → ℕ
notice_number s k =
    (s.node.parts.notices.count + 2 ^ 64 - (length s.node.parts.notices.last - suc k)) % 2 ^ 64

-- its number, the milliseconds from the start until it was seen, and its text
abbrev pub notice_object : (number : ℕ) → (time : ℕ) → (text : List ℕ) → List Token
notice_object n time text =
    object (number_member (codes "number") n ++ number_member (codes "time_ms") time ++ text_member (codes "text") text)

abbrev pub shown_notice : (number : ℕ) → (time : ℕ) → Option (List ℕ) → List Token
shown_notice n time None = []
shown_notice n time (Some text) = notice_object n time text

unfoldable pub notice_tokens : {Q : Type 0} → PointFormat → State Q → NoticeLog → ℕ → List Token
notice_tokens points s log k =
    shown_notice (notice_number s k) (time_of (notice_number s k) log) (notice_line points s k)

-- the member that shows how many notices of a kind there were: the word with which their lines begin
abbrev pub kind_key : NoticeKind → List ℕ
kind_key noticed.Refused = codes "refused"
kind_key noticed.Frame = codes "frame"
kind_key noticed.Failed = codes "failed"
kind_key noticed.Lost = codes "lost"
kind_key noticed.Unsent = codes "unsent"
kind_key noticed.Expired = codes "expired"
kind_key noticed.Unbarred = codes "unbarred"
kind_key noticed.Late = codes "late"
kind_key noticed.Missed = codes "missed"

abbrev pub kind_member : NoticeLog → NoticeKind → List Token
kind_member log kind = number_member (kind_key kind) (kind_seen kind log)

abbrev pub kind_members : NoticeLog → List NoticeKind → List Token
kind_members log kinds = flat_map (kind_member log) kinds

-- ---- alarms

-- an alarm that is raised since then
abbrev pub alarm_object : PointFormat → Configuration → Alarm → (since : ℕ) → List Token
alarm_object points c alarm since =
    object (text_member (codes "name") (alarm_name points c alarm) ++ number_member (codes "since_ms") since)

-- the same, if there is one, and it is raised
abbrev pub raised_tokens : PointFormat → Configuration → Option Alarm → (since : Option ℕ) → List Token
raised_tokens points c None since = []
raised_tokens points c (Some alarm) None = []
raised_tokens points c (Some alarm) (Some since) = alarm_object points c alarm since

-- the alarm at a place of the table
unfoldable pub alarm_tokens : {Q : Type 0} → State Q → NodeFacts → (place : ℕ) → List Token
alarm_tokens s f place =
    raised_tokens f.points s.settings (alarm_at place) (slice_index_or f.alarms place None)

-- ---- the node

-- the version, the time since the start in milliseconds, and the longest turn in microseconds
abbrev pub program_members : (times : Times) → List Token
program_members times =
    text_member (codes "version") VERSION.now ++ number_member (codes "uptime_ms") times.uptime_ms
    ++ number_member (codes "longest_turn_us") times.longest_turn_us

-- the node's own point, its network, and the user messages that it may keep
abbrev pub place_members : PointFormat → Configuration → List Token
place_members points c =
    text_member (codes "point") (point_text points c.own)
    ++ number_member (codes "network") c.network
    ++ number_member (codes "pool") c.pool

-- the user messages that the node keeps and those of them that are held, how often each flag was raised, the counts of
-- losses, and how many notices there were
abbrev pub count_members : {Q : Type 0} → QueueKind Q → State Q → List Token
count_members q s =
    number_member (codes "kept") (kept_messages q s)
    ++ number_member (codes "held") (held_users q s)
    ++ number_member (codes "times_lost") s.node.parts.times_lost
    ++ number_member (codes "times_late") s.node.parts.times_late
    ++ number_member (codes "messages_lost") s.node.parts.messages_lost
    ++ number_member (codes "times_broken") s.node.parts.times_broken
    ++ number_member (codes "times_rerouted") s.reroutings.times
    ++ number_member (codes "notice_count") s.node.parts.notices.count

unfoldable pub node_members : {Q : Type 0} → QueueKind Q → PointFormat → State Q → (times : Times) → List Token
node_members q points s times = program_members times ++ place_members points s.settings ++ count_members q s

-- the node, its alarms that are raised, and its sets, links, destinations and notices
unfoldable pub state_members : {Q : Type 0} → QueueKind Q → State Q → NodeFacts → List Token
state_members q s f =
    node_members q f.points s f.times
    ++ array_member (codes "alarms") (each (alarm_tokens s f) (length f.alarms))
    ++ array_member (codes "sets") (flat_map (set_tokens f.points) s.settings.sets)
    ++ array_member (codes "links") (each (link_tokens q s f) (length s.settings.links))
    ++ array_member (codes "routes") (each (route_tokens f.points s) (length s.settings.destinations))
    ++ object_member (codes "notice_kinds") (kind_members f.notices notice_kinds)
    ++ array_member (codes "notices") (each (notice_tokens f.points s f.notices) (length s.node.parts.notices.last))

-- the whole state
abbrev pub state_tokens : {Q : Type 0} → QueueKind Q → State Q → NodeFacts → List Token
state_tokens q s f = object (state_members q s f)
