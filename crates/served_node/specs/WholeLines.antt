-- What a whole line of a client does.
use Rattle.std.specs.Prelude.{◌≡◌, ℕ, ◌⊎◌, Bool, true, false, List, ◌++◌, take, Option, None, Some, Result, Ok, Err}
use Rattle.console.specs.Malformed.{malformed_answer}
use Rattle.console.specs.Trimming.{trimmed}
use Rattle.exchange.specs.Calls.{Kept}
use Rattle.script.specs.Asking.{Asked}
use Rattle.script.specs.Streams.{Output, counted}
use Rattle.script.specs.declared.sink.WriteFailed.{WriteFailed}
use Rattle.served_node.specs.Lines.{Heard, heard, HearsNothing, HearsScript, HearsCounters, HearsCapture, HearsCaptured, HearsVersion, HearsAlarms, HearsListing, HearsLink, HearsSettings, HearsTitle, HearsHelp, HearsUsers, HearsNotices, HearsFrames, HearsQuit, HearsStop, HearsNoLine}
use Rattle.served_node.specs.Alarmed.{alarms_text}
use Rattle.served_node.specs.Answers.{Waiting, IsAnswered}
use Rattle.served_node.specs.Clients.{ClientState, begun, OnlyOutboxChanges, told_of, untold}
use Rattle.served_node.specs.Counters.{counters_text}
use Rattle.served_node.specs.Listings.{listing_text, settings_text}
use Rattle.served_node.specs.declared.console_session.listing.Listing.{Listing}
use Rattle.served_node.specs.declared.console_session.listing.Listing.TheVariants.{Link}
use Rattle.served_link.specs.declared.service_states.StateSince.{StateSince}
use Rattle.settings.specs.Readings.{link_place}
use Rattle.console.specs.NearestLinks.{no_link_text}
use Rattle.console.specs.TitleAnswers.{title_answer}
use Rattle.console.specs.declared.title_words.RowName.{RowName}
use Rattle.exchange_rules.specs.Messages.{own_of}
use Rattle.served_node.specs.Captured.{Captured, after_order, answer_to, captured_text, order_of}
use Rattle.served_node.specs.declared.console_session.help.TheConstants.{HELP}
use Rattle.served_node.specs.declared.console_session.client.TheConstants.{VERSION, WATCHING, STOPPING}
use Rattle.served_link.specs.Counting.{NodeCounters}
use Rattle.served_link.specs.declared.row.LinkCounters.{LinkCounters}
use Rattle.settings.specs.declared.point.PointFormat.{PointFormat}
use Rattle.served_node.specs.declared.console_session.client.Ending.{Ending}
use Rattle.served_node.specs.declared.console_session.client.Ending.TheVariants.{Stays, Closes, Leaves, Stops}
use Rattle.served_node.specs.declared.console_session.client.News.TheVariants.{Message, Notice, Frame}

-- the outbox of a client, as an output
abbrev pub output_of : Waiting → Output
output_of w = record { written = Some w.octets; failures = w.failures }

-- a client that there was no room to answer is to be closed
abbrev pub ending_of : Result Ending WriteFailed → Ending
ending_of (Ok ending) = ending
ending_of (Err failed) = Closes

-- a line of a script is done and answered, and the client stays if there was room for the answer
abbrev pub IsDone : Asked → Ending → (s after : Kept) → (old new : Waiting) → Type 0
IsDone asked Stays s after old new = IsAnswered asked s (Ok tt) after (output_of old) (output_of new)
IsDone asked Closes s after old new =
    (failed : WriteFailed) × IsAnswered asked s (Err failed) after (output_of old) (output_of new)
IsDone asked Leaves s after old new = ⊥
IsDone asked Stops s after old new = ⊥

-- a text was added to what waits for the client
abbrev pub answered : ClientState → List ℕ → ClientState
answered old text = record old { outbox = record old.outbox { octets = old.outbox.octets ++ text } }

-- there was no room for a text: only what waited before waits
abbrev pub unanswered : ClientState → ClientState
unanswered old = record old { outbox = record old.outbox { failures = counted old.outbox.failures } }

-- one or the other
abbrev pub IsAnsweredBy : (text : List ℕ) → Result Unit WriteFailed → (old new : ClientState) → Type 0
IsAnsweredBy text (Ok x) old new = new ≡ answered old text
IsAnsweredBy text (Err failed) old new = new ≡ unanswered old

-- a line has one text for its answer; then the client stays or leaves, or the node stops
abbrev pub IsTold : (text : List ℕ) → (last : Ending) → Ending → (old new : ClientState) → Type 0
IsTold text last Closes old new = new ≡ unanswered old
IsTold text last Stays old new = (Stays ≡ last) × (new ≡ answered old text)
IsTold text last Leaves old new = (Leaves ≡ last) × (new ≡ answered old text)
IsTold text last Stops old new = (Stops ≡ last) × (new ≡ answered old text)

-- a text of many lines is answered, or its first octets, as far as there was room
abbrev pub IsShown : (text : List ℕ) → Ending → (old new : ClientState) → Type 0
IsShown text Stays old new = new ≡ answered old text
IsShown text Closes old new = (count : ℕ) × (new ≡ unanswered (answered old (take count text)))
IsShown text Leaves old new = ⊥
IsShown text Stops old new = ⊥

-- a client stays if there was room
abbrev pub ending_by : Result Unit WriteFailed → Ending
ending_by (Ok x) = Stays
ending_by (Err failed) = Closes

-- A line that a client may not write is answered by why it is none, whether memory was refused for that or not.
abbrev pub IsExplained : PointFormat → (line : List ℕ) → (old new : ClientState) → Type 0
IsExplained points line old new = (lacks_memory : Bool) × (new ≡ answered old (malformed_answer lacks_memory points line))

abbrev pub IsRefusedBy : PointFormat → (line : List ℕ) → Result Unit WriteFailed → (old new : ClientState) → Type 0
IsRefusedBy points line (Ok x) old new = IsExplained points line old new
IsRefusedBy points line (Err failed) old new = new ≡ unanswered old

-- Then the client stays, or, if it was its first line, is to be closed.
abbrev pub IsRefused :
    PointFormat → (line : List ℕ) → (is_first : Bool) → Ending → (old new : ClientState) → Type 0
IsRefused points line is_first Stays old new = (is_first ≡ false) × IsExplained points line old new
IsRefused points line is_first Closes old new =
    (new ≡ unanswered old) ⊎ ((is_first ≡ true) × IsExplained points line old new)
IsRefused points line is_first Leaves old new = ⊥
IsRefused points line is_first Stops old new = ⊥

-- how points are read and shown, and what a client may be shown beside the node: the counters, since when each alarm
-- is raised, the links as they were last seen, and how many milliseconds a tick takes
pub record Shown : Type 0 where
  pub points : PointFormat
  pub counters : NodeCounters
  pub alarms : List (Option ℕ)
  pub links : List StateSince
  pub tick_ms : ℕ

abbrev pub shown : PointFormat → NodeCounters → List (Option ℕ) → List StateSince → (tick_ms : ℕ) → Shown
shown points counters alarms links tick_ms = record {
  points = points;
  counters = counters;
  alarms = alarms;
  links = links;
  tick_ms = tick_ms;
}

-- what is known of a link of this name is shown; if there is none, that is said, and which name is nearest, whether
-- memory was refused for that or not
abbrev pub IsLinkShown : Option ℕ → (name : List ℕ) → PointFormat → (tick_ms : ℕ) → List StateSince → List LinkCounters
    → Ending → Kept → (old new : ClientState) → Type 0
IsLinkShown (Some link) name points tick_ms links counts ending s old new =
    IsShown (listing_text points tick_ms links counts s (Link link)) ending old new
IsLinkShown None name points tick_ms links counts ending s old new =
    (lacks_memory : Bool) × IsTold (no_link_text lacks_memory s.settings name) Stays ending old new

-- what becomes of a title at a node
abbrev pub title_answer_in : PointFormat → Kept → RowName → List ℕ
title_answer_in points s name =
    title_answer points (own_of s.settings s.node.parts) s.node.parts.titles s.settings name

-- What a line does to the node, to what is captured and to its client, and what becomes of the client. Only a line of
-- a script changes the node, only an order about the capture what is captured, and only `stop` asks the node to stop.
-- A line that does nothing isn't the client's first one: if none was before it, the next one is.
abbrev pub DoesHeard :
    Heard → (is_first : Bool) → Shown → (captured captured_after : Captured) → Ending → (s after : Kept)
    → (old new : ClientState) → Type 0
DoesHeard HearsNothing is_first shown captured captured_after ending s after old new =
    (ending ≡ Stays) × (after ≡ s) × (captured_after ≡ captured) × (new ≡ record old { is_first = is_first })
DoesHeard (HearsScript asked) is_first shown captured captured_after ending s after old new =
    IsDone asked ending s after old.outbox new.outbox × (captured_after ≡ captured) × OnlyOutboxChanges old new
DoesHeard HearsCounters is_first shown captured captured_after ending s after old new =
    (after ≡ s) × (captured_after ≡ captured) × IsShown (counters_text s shown.counters) ending old new
DoesHeard (HearsCapture is_on name) is_first shown captured captured_after ending s after old new =
    (after ≡ s) × (captured_after ≡ after_order (order_of s.settings is_on name) captured)
    × IsTold (answer_to (order_of s.settings is_on name) captured) Stays ending old new
DoesHeard HearsCaptured is_first shown captured captured_after ending s after old new =
    (after ≡ s) × (captured_after ≡ captured) × IsShown (captured_text s captured) ending old new
DoesHeard HearsVersion is_first shown captured captured_after ending s after old new =
    (after ≡ s) × (captured_after ≡ captured) × IsTold VERSION.now Stays ending old new
DoesHeard HearsAlarms is_first shown captured captured_after ending s after old new =
    (after ≡ s) × (captured_after ≡ captured)
    × IsShown (alarms_text shown.points s.settings shown.alarms) ending old new
DoesHeard (HearsListing listing) is_first shown captured captured_after ending s after old new =
    (after ≡ s) × (captured_after ≡ captured)
    × IsShown (listing_text shown.points shown.tick_ms shown.links shown.counters.links s listing) ending old new
DoesHeard (HearsLink name) is_first shown captured captured_after ending s after old new =
    (after ≡ s) × (captured_after ≡ captured)
    × IsLinkShown (link_place s.settings name) name shown.points shown.tick_ms shown.links shown.counters.links ending s
    old new
DoesHeard HearsSettings is_first shown captured captured_after ending s after old new =
    (after ≡ s) × (captured_after ≡ captured) × IsShown (settings_text shown.points s) ending old new
DoesHeard (HearsTitle name) is_first shown captured captured_after ending s after old new =
    (after ≡ s) × (captured_after ≡ captured) × IsTold (title_answer_in shown.points s name) Stays ending old new
DoesHeard HearsHelp is_first shown captured captured_after ending s after old new =
    (after ≡ s) × (captured_after ≡ captured) × IsTold HELP.now Stays ending old new
DoesHeard HearsUsers is_first shown captured captured_after ending s after old new =
    (after ≡ s) × (captured_after ≡ captured) × IsTold WATCHING.now Stays ending (told_of old Message) new
DoesHeard HearsNotices is_first shown captured captured_after ending s after old new =
    (after ≡ s) × (captured_after ≡ captured) × IsTold WATCHING.now Stays ending (told_of old Notice) new
DoesHeard HearsFrames is_first shown captured captured_after ending s after old new =
    (after ≡ s) × (captured_after ≡ captured) × IsTold WATCHING.now Stays ending (told_of old Frame) new
DoesHeard HearsQuit is_first shown captured captured_after ending s after old new =
    (after ≡ s) × (captured_after ≡ captured) × IsTold WATCHING.now Leaves ending (untold old) new
DoesHeard HearsStop is_first shown captured captured_after ending s after old new =
    (after ≡ s) × (captured_after ≡ captured) × IsTold STOPPING.now Stops ending old new
DoesHeard (HearsNoLine points line) is_first shown captured captured_after ending s after old new =
    (after ≡ s) × (captured_after ≡ captured) × IsRefused points line is_first ending old new

-- what a line of a client without needless blanks does, which is its first or isn't
abbrev pub DoesLineAt : (is_first : Bool) → List ℕ → Shown → (captured captured_after : Captured) → Ending
    → (s after : Kept) → (old new : ClientState) → Type 0
DoesLineAt is_first line shown captured captured_after ending s after old new =
    DoesHeard (heard shown.points line) is_first shown captured captured_after ending s after old new

-- what a line of a client does. No line after it is the client's first, unless it did nothing
abbrev pub DoesLine : List ℕ → Shown → (captured captured_after : Captured) → Ending → (s after : Kept)
    → (old new : ClientState) → Type 0
DoesLine line shown captured captured_after ending s after old new =
    DoesLineAt old.is_first (trimmed line) shown captured captured_after ending s after (begun old) new
