-- What a client is shown of a node's timers, sets, links and destinations, in tables, and of one of its links, a fact a
-- line.
use Rattle.std.specs.Prelude.{ℕ, zero, suc, ◌+◌, ◌*◌, Bool, true, false, ◌&&◌, nat_eq, if◌then◌else◌, List, [], ◌∷◌, ◌++◌, codes, decimal, length}
use Rattle.std.specs.Prelude.{slice_get, Option, None, Some}
use Rattle.settings.specs.Configuration.{Configuration, DestinationEntry, LinkEntry, SetEntry}
use Rattle.settings.specs.Points.{point_text}
use Rattle.settings.specs.declared.point.PointFormat.{PointFormat}
use Rattle.exchange.specs.Calls.{Kept}
use Rattle.exchange.specs.KeptQueues.{kept}
use Rattle.exchange.specs.Views.{is_barred_at, link_view, route_status, route_view, standing_name}
use Rattle.exchange.specs.declared.view.LinkView.{LinkView}
use Rattle.exchange.specs.declared.view.RouteView.{RouteView}
use Rattle.routes.specs.Routes.{status_name}
use Rattle.routes.specs.declared.route.RouteStatus.{RouteStatus}
use Rattle.console.specs.Names.{set_name_in}
use Rattle.console.specs.Texts.{given_text, sets_text}
use Rattle.console.specs.TimerKeys.{KeyedTimer, keyed_timers}
use Rattle.console.specs.SettingsTexts.{entries_of, rows_of}
use Rattle.console.specs.declared.settings_part.SettingsPart.{SettingsPart}
use Rattle.console.specs.declared.settings_part.TheConstants.{SETTINGS_PARTS}
use Rattle.console.specs.declared.timer_keys.TheConstants.{TIMERS}
use Rattle.served_link.specs.AlarmTexts.{seconds_text}
use Rattle.served_link.specs.LinkFailures.{failure_text}
use Rattle.served_link.specs.ServiceStates.{is_available, state_words}
use Rattle.served_link.specs.ShownStates.{service_state_in}
use Rattle.served_link.specs.declared.row.LinkCounters.{LinkCounters}
use Rattle.served_link.specs.declared.service_states.ServiceState.{ServiceState}
use Rattle.served_link.specs.declared.service_states.StateSince.{StateSince}
use Rattle.served_node.specs.Counters.{first_texts}
use Rattle.served_node.specs.Tables.{cell, last_cell, message_text, some_number}
use Rattle.served_node.specs.declared.console_session.listing.Listing.{Listing}
use Rattle.served_node.specs.declared.console_session.listing.Listing.TheVariants as listing
use Rattle.served_node.specs.declared.console_session.link_facts.LinkFact.{LinkFact}
use Rattle.served_node.specs.declared.console_session.link_facts.LinkFact.TheVariants as fact
use Rattle.served_node.specs.declared.console_session.link_facts.TheConstants.{LINK_FACTS}

-- ---- timers

abbrev pub timers_head : List ℕ
timers_head = codes "  TIMER   TICKS  SECONDS\n"

-- how many ticks a timer runs, and how many seconds these are; a tick has so many milliseconds
abbrev pub timer_row : (tick_ms : ℕ) → (key : List ℕ) → Option ℕ → List ℕ
timer_row tick_ms key (Some ticks) = cell 6 key ++ cell 5 (decimal ticks) ++ last_cell (seconds_text (ticks * tick_ms))
timer_row tick_ms key None = cell 6 key ++ cell 5 (codes "-") ++ last_cell (codes "-")

abbrev pub row_of_timer : (tick_ms : ℕ) → Option KeyedTimer → List ℕ
row_of_timer tick_ms (Some timer) = timer_row tick_ms timer.key timer.ticks
row_of_timer tick_ms None = []

-- ---- sets

-- how many of the first numbers are such
abbrev pub count_first : (ℕ → Bool) → ℕ → ℕ
count_first is_such zero = 0
count_first is_such (suc k) = count_first is_such k + (if is_such k then 1 else 0)

abbrev pub is_row_of : (set : ℕ) → Option LinkEntry → Bool
is_row_of set (Some row) = nat_eq row.set set
is_row_of set None = false

-- whether link k is of a set
abbrev pub is_of_set : Configuration → (set k : ℕ) → Bool
is_of_set c set k = is_row_of set (slice_get c.links k)

abbrev pub is_state_available : Option ServiceState → Bool
is_state_available (Some state) = is_available state
is_state_available None = false

-- whether link k is of a set, and in service
abbrev pub serves_set : Kept → (set k : ℕ) → Bool
serves_set s set k = is_of_set s.settings set k && is_state_available (service_state_in s k)

abbrev pub links_of_set : Configuration → (set : ℕ) → ℕ
links_of_set c set = count_first (is_of_set c set) (length c.links)

abbrev pub links_in_service : Kept → (set : ℕ) → ℕ
links_in_service s set = count_first (serves_set s set) (length s.settings.links)

-- a set is available while a link of it is in service
abbrev pub available_text : (in_service : ℕ) → List ℕ
available_text in_service = if nat_eq in_service 0 then codes "unavailable" else codes "available"

abbrev pub sets_head : List ℕ
sets_head = codes "  SET           ADJACENT  STATE        IN SERVICE  LINKS\n"

abbrev pub set_row : PointFormat → SetEntry → (in_service links : ℕ) → List ℕ
set_row points set in_service links =
    cell 12 set.name ++ cell 8 (point_text points set.adjacent) ++ cell 11 (available_text in_service)
    ++ cell 10 (decimal in_service) ++ last_cell (decimal links)

abbrev pub row_of_set : PointFormat → Kept → (set : ℕ) → Option SetEntry → List ℕ
row_of_set points s set (Some row) = set_row points row (links_in_service s set) (links_of_set s.settings set)
row_of_set points s set None = []

-- ---- links

-- the state in which a link was last seen, and since when it is in that, in seconds after the start
abbrev pub seen_state : Option StateSince → List ℕ
seen_state (Some seen) = state_words seen.state
seen_state None = codes "-"

abbrev pub seen_since : Option StateSince → List ℕ
seen_since (Some seen) = seconds_text seen.since_ms
seen_since None = codes "-"

abbrev pub links_head : List ℕ
links_head =
    codes "  LINK          SET           STATE               SINCE       ALIGNMENT     WAITING  FSN       BSN\n"

-- how far a link is on its way into service, how many messages of its queue aren't confirmed, and the numbers of the last
-- message that was sent, and of the last that was accepted
abbrev pub link_row : Configuration → Option StateSince → LinkEntry → LinkView → List ℕ
link_row c seen row view =
    cell 12 row.name ++ cell 12 (set_name_in c row.set) ++ cell 18 (seen_state seen) ++ cell 10 (seen_since seen)
    ++ cell 12 (standing_name view.standing) ++ cell 7 (decimal view.waiting) ++ cell 8 (message_text view.last_sent)
    ++ last_cell (message_text view.last_accepted)

abbrev pub row_of_link : List StateSince → Kept → (link : ℕ) → Option LinkEntry → Option LinkView → List ℕ
row_of_link states s link (Some row) (Some view) = link_row s.settings (slice_get states link) row view
row_of_link states s link (Some row) None = []
row_of_link states s link None view = []

-- ---- destinations

abbrev pub routes_head : List ℕ
routes_head = codes "  DESTINATION  STATUS      SETS TAKEN                ROUTES\n"

abbrev pub status_words : Option RouteStatus → List ℕ
status_words (Some status) = status_name status
status_words None = codes "-"

-- some sets that lead to a destination, each behind a blank, and the status of the route over it behind a colon
abbrev pub each_route : Kept → (destination : ℕ) → (sets : List ℕ) → List ℕ
each_route s destination [] = []
each_route s destination (set ∷ sets) =
    codes " " ++ set_name_in s.settings set ++ codes ":" ++ status_words (route_status s destination set)
    ++ each_route s destination sets

-- the status of the routes that messages take, and the sets that these lead over; then all routes
abbrev pub route_row : PointFormat → Kept → (destination : ℕ) → (sets : List ℕ) → RouteView → List ℕ
route_row points s destination sets view =
    cell 11 (point_text points view.point) ++ cell 10 (status_name view.status)
    ++ cell 24 (sets_text s.settings view.sets.items) ++ codes " " ++ each_route s destination sets ++ codes "\n"

abbrev pub row_of_route : PointFormat → Kept → (destination : ℕ) → Option DestinationEntry → Option RouteView → List ℕ
row_of_route points s destination (Some row) (Some view) = route_row points s destination row.sets view
row_of_route points s destination (Some row) None = []
row_of_route points s destination None view = []

-- ---- a link, a fact a line

abbrev pub name_fact : (word name : List ℕ) → List ℕ
name_fact word name = word ++ name ++ codes "\n"

abbrev pub number_fact : (word : List ℕ) → ℕ → List ℕ
number_fact word number = word ++ decimal number ++ codes "\n"

-- a number, or - for none
abbrev pub given_fact : (word : List ℕ) → Option ℕ → List ℕ
given_fact word given = word ++ given_text given ++ codes "\n"

abbrev pub adjacent_fact : PointFormat → Option SetEntry → List ℕ
adjacent_fact points (Some set) = codes "adjacent " ++ point_text points set.adjacent ++ codes "\n"
adjacent_fact points None = []

-- the state of a link, as it was last seen, and since when it is in that, in seconds after the start
abbrev pub state_fact : Option StateSince → List ℕ
state_fact (Some seen) = codes "state " ++ state_words seen.state ++ codes " since " ++ seconds_text seen.since_ms ++ codes "\n"
state_fact None = []

-- its last failure: why, which timer ran out, if one did, and when that was, in seconds after the start
abbrev pub failure_fact : Option StateSince → List ℕ
failure_fact (Some seen) = codes "last failure " ++ failure_text seen.failure ++ codes "\n"
failure_fact None = []

-- how many chunks its associations over SCTP sent again since the start
abbrev pub retransmissions_fact : Option LinkCounters → List ℕ
retransmissions_fact (Some row) = number_fact (codes "retransmissions ") row.retransmissions
retransmissions_fact None = []

abbrev pub barred_fact : (is_barred : Bool) → List ℕ
barred_fact true = codes "barred yes\n"
barred_fact false = codes "barred no\n"

abbrev pub fact_text :
    PointFormat → List StateSince → List LinkCounters → Kept → (link : ℕ) → LinkEntry → LinkView → LinkFact → List ℕ
fact_text points states counts s link row view fact.Name = name_fact (codes "link ") row.name
fact_text points states counts s link row view fact.Set = name_fact (codes "set ") (set_name_in s.settings row.set)
fact_text points states counts s link row view fact.Code = number_fact (codes "code ") row.slc
fact_text points states counts s link row view fact.Adjacent = adjacent_fact points (slice_get s.settings.sets row.set)
fact_text points states counts s link row view fact.State = state_fact (slice_get states link)
fact_text points states counts s link row view fact.Waiting = number_fact (codes "waiting ") view.waiting
fact_text points states counts s link row view fact.LastSent =
    given_fact (codes "last sent ") (some_number view.last_sent)
fact_text points states counts s link row view fact.LastAccepted =
    given_fact (codes "last accepted ") (some_number view.last_accepted)
fact_text points states counts s link row view fact.Barred = barred_fact (is_barred_at s link)
fact_text points states counts s link row view fact.Share = given_fact (codes "share ") row.share
fact_text points states counts s link row view fact.LastFailure = failure_fact (slice_get states link)
fact_text points states counts s link row view fact.Retransmissions = retransmissions_fact (slice_get counts link)

-- a link that is there
abbrev pub fact_of :
    PointFormat → List StateSince → List LinkCounters → Kept → (link : ℕ) → Option LinkEntry → Option LinkView →
    LinkFact → List ℕ
fact_of points states counts s link (Some row) (Some view) fact = fact_text points states counts s link row view fact
fact_of points states counts s link (Some row) None fact = []
fact_of points states counts s link None view fact = []

abbrev pub link_fact :
    PointFormat → List StateSince → List LinkCounters → Kept → (link : ℕ) → Option LinkFact → List ℕ
link_fact points states counts s link (Some fact) =
    fact_of points states counts s link (slice_get s.settings.links link) (link_view kept s link) fact
link_fact points states counts s link None = []

-- ---- a whole text

abbrev pub head_of : Listing → List ℕ
head_of listing.Timers = timers_head
head_of listing.Sets = sets_head
head_of listing.Links = links_head
head_of listing.Routes = routes_head
head_of (listing.Link link) = []

-- the row of entry k of a table, or line k about a link
abbrev pub entry_of :
    PointFormat → (tick_ms : ℕ) → List StateSince → List LinkCounters → Kept → Listing → ℕ → List ℕ
entry_of points tick_ms states counts s listing.Timers k =
    row_of_timer tick_ms (slice_get (keyed_timers s.settings.timers) k)
entry_of points tick_ms states counts s listing.Sets k = row_of_set points s k (slice_get s.settings.sets k)
entry_of points tick_ms states counts s listing.Links k =
    row_of_link states s k (slice_get s.settings.links k) (link_view kept s k)
entry_of points tick_ms states counts s listing.Routes k =
    row_of_route points s k (slice_get s.settings.destinations k) (route_view s k)
entry_of points tick_ms states counts s (listing.Link link) k =
    link_fact points states counts s link (slice_get LINK_FACTS.now k)

abbrev pub length_of : Kept → Listing → ℕ
length_of s listing.Timers = TIMERS
length_of s listing.Sets = length s.settings.sets
length_of s listing.Links = length s.settings.links
length_of s listing.Routes = length s.settings.destinations
length_of s (listing.Link link) = length LINK_FACTS.now

abbrev pub entries_text :
    PointFormat → (tick_ms : ℕ) → List StateSince → List LinkCounters → Kept → Listing → List ℕ
entries_text points tick_ms states counts s listing =
    first_texts (entry_of points tick_ms states counts s listing) (length_of s listing)

abbrev pub listing_text :
    PointFormat → (tick_ms : ℕ) → List StateSince → List LinkCounters → Kept → Listing → List ℕ
listing_text points tick_ms states counts s listing =
    head_of listing ++ entries_text points tick_ms states counts s listing

-- the settings as they are now, part by part
abbrev pub rows_text : PointFormat → Kept → SettingsPart → List ℕ
rows_text points s part = first_texts (rows_of points s part) (entries_of s part)

abbrev pub part_text : PointFormat → Kept → Option SettingsPart → List ℕ
part_text points s (Some part) = rows_text points s part
part_text points s None = []

abbrev pub settings_text : PointFormat → Kept → List ℕ
settings_text points s =
    first_texts (λ k. part_text points s (slice_get SETTINGS_PARTS.now k)) (length SETTINGS_PARTS.now)
