-- The tables that a console shows, and the facts about a link, answer none: each line of a table begins with a blank.
use Rattle.std.proofs.Common.{ℕ, List, [], ◌∷◌, ◌++◌, ◌*◌, Bool, true, false, Option, None, Some, refl, length, slice_get}
use Rattle.std.specs.Prelude.{codes, decimal, slice_index_or}
use Rattle.settings.specs.Points.{point_text}
use Rattle.settings.specs.Configuration.{Configuration, DestinationEntry, LinkEntry, SetEntry}
use Rattle.settings.specs.declared.point.PointFormat.{PointFormat}
use Rattle.routes.specs.Routes.{status_name}
use Rattle.exchange.specs.Calls.{Kept}
use Rattle.exchange.specs.KeptQueues.{kept}
use Rattle.exchange.specs.Views.{is_barred_at, link_view, route_view, standing_name}
use Rattle.exchange.specs.declared.view.LinkView.{LinkView}
use Rattle.exchange.specs.declared.view.RouteView.{RouteView}
use Rattle.console.specs.Names.{set_name_in}
use Rattle.console.specs.Texts.{given_text, sets_text}
use Rattle.console.specs.TimerKeys.{KeyedTimer, keyed_timers}
use Rattle.served_link.specs.Alarms.{alarm_at}
use Rattle.served_link.specs.AlarmTexts.{alarm_name, seconds_text}
use Rattle.served_link.specs.LinkFailures.{failure_text}
use Rattle.served_link.specs.ServiceStates.{state_words}
use Rattle.served_link.specs.declared.alarm.Alarm.{Alarm}
use Rattle.served_link.specs.declared.row.LinkCounters.{LinkCounters}
use Rattle.served_link.specs.declared.service_states.StateSince.{StateSince}
use Rattle.served_node.specs.Alarmed.{alarms_text, row_at, row_since}
use Rattle.served_node.specs.Listings as text
use Rattle.served_node.specs.Tables.{cell, message_text, some_number}
use Rattle.served_node.specs.declared.console_session.link_facts.LinkFact.{LinkFact}
use Rattle.served_node.specs.declared.console_session.link_facts.LinkFact.TheVariants as fact
use Rattle.served_node.specs.declared.console_session.link_facts.TheConstants.{LINK_FACTS}
use Rattle.served_node.specs.declared.console_session.listing.Listing.{Listing}
use Rattle.served_node.specs.declared.console_session.listing.Listing.TheVariants as listing
use Rattle.program.proofs.ShownLines.{both-none, first-none, line-none, nothing-none, row-none}
use Rattle.program.specs.ConsoleLaws.{AllNone}

-- ---- rows

timer-length : (tick_ms : ℕ) (key : List ℕ) (ticks : Option ℕ) → AllNone (text.timer_row tick_ms key ticks)
timer-length tick_ms key (Some ticks) = row-none (cell 6 key ++ cell 5 (decimal ticks)) (seconds_text (ticks * tick_ms)) refl
timer-length tick_ms key None = row-none (cell 6 key ++ cell 5 (codes "-")) (codes "-") refl

timer : (tick_ms : ℕ) (t : Option KeyedTimer) → AllNone (text.row_of_timer tick_ms t)
timer tick_ms (Some t) = timer-length tick_ms t.key t.ticks
timer tick_ms None = nothing-none

set : (points : PointFormat) (s : Kept) (k : ℕ) (row : Option SetEntry) → AllNone (text.row_of_set points s k row)
set points s k (Some row) =
    let in_service = text.links_in_service s k in
    row-none
    (cell 12 row.name ++ cell 8 (point_text points row.adjacent) ++ cell 11 (text.available_text in_service) ++ cell 10 (decimal in_service))
    (decimal (text.links_of_set s.settings k)) refl
set points s k None = nothing-none

link : (states : List StateSince) (s : Kept) (k : ℕ) (row : Option LinkEntry) (view : Option LinkView) → AllNone (text.row_of_link states s k row view)
link states s k (Some row) (Some view) =
    let seen = slice_get states k in
    row-none
    (cell 12 row.name ++ cell 12 (set_name_in s.settings row.set) ++ cell 18 (text.seen_state seen) ++ cell 10 (text.seen_since seen)
    ++ cell 12 (standing_name view.standing) ++ cell 7 (decimal view.waiting) ++ cell 8 (message_text view.last_sent))
    (message_text view.last_accepted) refl
link states s k (Some row) None = nothing-none
link states s k None view = nothing-none

route : (points : PointFormat) (s : Kept) (k : ℕ) (row : Option DestinationEntry) (view : Option RouteView) → AllNone (text.row_of_route points s k row view)
route points s k (Some row) (Some view) =
    line-none
    (cell 11 (point_text points view.point) ++ cell 10 (status_name view.status) ++ cell 24 (sets_text s.settings view.sets.items)
    ++ codes " " ++ text.each_route s k row.sets)
    refl
route points s k (Some row) None = nothing-none
route points s k None view = nothing-none

-- ---- facts about a link

adjacent : (points : PointFormat) (set : Option SetEntry) → AllNone (text.adjacent_fact points set)
adjacent points (Some set) = line-none (codes "adjacent " ++ point_text points set.adjacent) refl
adjacent points None = nothing-none

state : (seen : Option StateSince) → AllNone (text.state_fact seen)
state (Some seen) = line-none (codes "state " ++ state_words seen.state ++ codes " since " ++ seconds_text seen.since_ms) refl
state None = nothing-none

failure : (seen : Option StateSince) → AllNone (text.failure_fact seen)
failure (Some seen) = line-none (codes "last failure " ++ failure_text seen.failure) refl
failure None = nothing-none

retransmissions : (row : Option LinkCounters) → AllNone (text.retransmissions_fact row)
retransmissions (Some row) = line-none (codes "retransmissions " ++ decimal row.retransmissions) refl
retransmissions None = nothing-none

barred : (is_barred : Bool) → AllNone (text.barred_fact is_barred)
barred true = line-none (codes "barred yes") refl
barred false = line-none (codes "barred no") refl

fact-text : (points : PointFormat) (states : List StateSince) (counts : List LinkCounters) (s : Kept) (k : ℕ) (row : LinkEntry) (v : LinkView) (f : LinkFact) → AllNone (text.fact_text points states counts s k row v f)
fact-text points states counts s k row v fact.Name = line-none (codes "link " ++ row.name) refl
fact-text points states counts s k row v fact.Set = line-none (codes "set " ++ set_name_in s.settings row.set) refl
fact-text points states counts s k row v fact.Code = line-none (codes "code " ++ decimal row.slc) refl
fact-text points states counts s k row v fact.Adjacent = adjacent points (slice_get s.settings.sets row.set)
fact-text points states counts s k row v fact.State = state (slice_get states k)
fact-text points states counts s k row v fact.Waiting = line-none (codes "waiting " ++ decimal v.waiting) refl
fact-text points states counts s k row v fact.LastSent = line-none (codes "last sent " ++ given_text (some_number v.last_sent)) refl
fact-text points states counts s k row v fact.LastAccepted = line-none (codes "last accepted " ++ given_text (some_number v.last_accepted)) refl
fact-text points states counts s k row v fact.Barred = barred (is_barred_at s k)
fact-text points states counts s k row v fact.Share = line-none (codes "share " ++ given_text row.share) refl
fact-text points states counts s k row v fact.LastFailure = failure (slice_get states k)
fact-text points states counts s k row v fact.Retransmissions = retransmissions (slice_get counts k)

fact-of : (points : PointFormat) (states : List StateSince) (counts : List LinkCounters) (s : Kept) (k : ℕ) (row : Option LinkEntry) (v : Option LinkView) (f : LinkFact) → AllNone (text.fact_of points states counts s k row v f)
fact-of points states counts s k (Some row) (Some v) f = fact-text points states counts s k row v f
fact-of points states counts s k (Some row) None f = nothing-none
fact-of points states counts s k None v f = nothing-none

link-fact : (points : PointFormat) (states : List StateSince) (counts : List LinkCounters) (s : Kept) (k : ℕ) (f : Option LinkFact) → AllNone (text.link_fact points states counts s k f)
link-fact points states counts s k (Some f) = fact-of points states counts s k (slice_get s.settings.links k) (link_view kept s k) f
link-fact points states counts s k None = nothing-none

-- ---- whole texts

head : (l : Listing) → AllNone (text.head_of l)
head listing.Timers = record { lines = codes "  TIMER   TICKS  SECONDS" ∷ []; whole = refl; none = (refl, tt) }
head listing.Sets = record { lines = codes "  SET           ADJACENT  STATE        IN SERVICE  LINKS" ∷ []; whole = refl; none = (refl, tt) }
head listing.Links = record {
  lines = codes "  LINK          SET           STATE               SINCE       ALIGNMENT     WAITING  FSN       BSN" ∷ [];
  whole = refl;
  none = (refl, tt);
}
head listing.Routes = record { lines = codes "  DESTINATION  STATUS      SETS TAKEN                ROUTES" ∷ []; whole = refl; none = (refl, tt) }
head (listing.Link k) = nothing-none

entry : (points : PointFormat) (tick_ms : ℕ) (states : List StateSince) (counts : List LinkCounters) (s : Kept) (l : Listing) (k : ℕ) → AllNone (text.entry_of points tick_ms states counts s l k)
entry points tick_ms states counts s listing.Timers k = timer tick_ms (slice_get (keyed_timers s.settings.timers) k)
entry points tick_ms states counts s listing.Sets k = set points s k (slice_get s.settings.sets k)
entry points tick_ms states counts s listing.Links k = link states s k (slice_get s.settings.links k) (link_view kept s k)
entry points tick_ms states counts s listing.Routes k = route points s k (slice_get s.settings.destinations k) (route_view s k)
entry points tick_ms states counts s (listing.Link named) k = link-fact points states counts s named (slice_get LINK_FACTS.now k)

pub listings : (points : PointFormat) (tick_ms : ℕ) (states : List StateSince) (counts : List LinkCounters) (s : Kept) (l : Listing) → AllNone (text.listing_text points tick_ms states counts s l)
listings points tick_ms states counts s l =
    both-none (head l)
    (first-none (text.entry_of points tick_ms states counts s l) (entry points tick_ms states counts s l) (text.length_of s l))

alarm : (points : PointFormat) (c : Configuration) (a : Option Alarm) (since : Option ℕ) → AllNone (row_since points c a since)
alarm points c None since = nothing-none
alarm points c (Some a) None = nothing-none
alarm points c (Some a) (Some since) = row-none (cell 24 (alarm_name points c a)) (seconds_text since) refl

pub alarms : (points : PointFormat) (c : Configuration) (table : List (Option ℕ)) → AllNone (alarms_text points c table)
alarms points c table =
    both-none
    (record { lines = codes "  ALARM                     SINCE" ∷ []; whole = refl; none = (refl, tt) })
    (first-none (row_at points c table) (λ place. alarm points c (alarm_at place) (slice_index_or table place None)) (length table))
