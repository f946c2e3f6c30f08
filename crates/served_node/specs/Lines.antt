-- What a client of the console asks for by a line.
use Rattle.std.specs.Prelude.{ℕ, Bool, true, false, if◌then◌else◌, List, codes, Option, None, Some, Result, Ok, Err}
use Rattle.std.specs.Prelude.{◌||◌, bytes_eq, nat_eq, length, take, drop}
use Rattle.std.specs.List.{list_any}
use Rattle.std.specs.Option.{option_map}
use Rattle.settings.specs.declared.point.PointFormat.{PointFormat}
use Rattle.console.specs.TitleTests.{title_tested}
use Rattle.console.specs.Words.{words, first_word, rest_of}
use Rattle.console.specs.declared.title_mistakes.TitleMistake.{TitleMistake}
use Rattle.console.specs.declared.title_words.RowName.{RowName}
use Rattle.script.specs.Asking.{Asked, AskUp, AskDown, AskFrame, AskTick, AskTake, AskWants, AskSubmit, AskOrder}
use Rattle.script.specs.Asking.{AskShow, Reading, Skips, IsMalformed, Asks, asked_line, parsed_line}
use Rattle.script.specs.declared.line.Malformed.{Malformed}
use Rattle.served_node.specs.declared.console_session.listing.Listing.{Listing}
use Rattle.served_node.specs.declared.console_session.listing.Listing.TheVariants.{Timers, Sets, Links, Routes}
use Rattle.served_node.specs.declared.console_session.command.ConsoleLine.{ConsoleLine}
use Rattle.served_node.specs.declared.console_session.command.ConsoleLine.TheVariants as line

-- what a line asks for: nothing, what a script asks for too, what only a client asks for; or it is malformed, with points
-- in a format
pub data Heard : Type 0 where
  HearsNothing : Heard
  HearsScript : Asked → Heard
  HearsCounters : Heard
  HearsCapture : (is_on : Bool) → (name : Option (List ℕ)) → Heard
  HearsCaptured : Heard
  HearsVersion : Heard
  HearsAlarms : Heard
  HearsListing : Listing → Heard
  HearsLink : (name : List ℕ) → Heard
  HearsSettings : Heard
  HearsTitle : RowName → Heard
  HearsHelp : Heard
  HearsUsers : Heard
  HearsNotices : Heard
  HearsFrames : Heard
  HearsQuit : Heard
  HearsStop : Heard
  HearsNoLine : PointFormat → (line : List ℕ) → Heard

-- what is behind a front, if a text begins with that
abbrev pub behind : (front text : List ℕ) → Option (List ℕ)
behind front text = if bytes_eq (take (length front) text) front then Some (drop (length front) text) else None

-- the capture of the link of this name, if there is a name
abbrev pub captures_named : (is_on : Bool) → Option (List ℕ) → Option Heard
captures_named is_on None = None
captures_named is_on (Some name) = Some (HearsCapture is_on (Some name))

abbrev pub either_heard : Option Heard → Option Heard → Option Heard
either_heard None other = other
either_heard (Some heard) other = Some heard

abbrev pub capture_of_link : List ℕ → Option Heard
capture_of_link text =
    either_heard (captures_named true (behind (codes "capture start ") text))
    (captures_named false (behind (codes "capture stop ") text))

abbrev pub capture_line : List ℕ → Option Heard
capture_line text =
    if bytes_eq text (codes "capture start") then Some (HearsCapture true None)
    else if bytes_eq text (codes "capture stop") then Some (HearsCapture false None)
    else capture_of_link text

-- the tables of timers, sets, links and destinations, the settings, and what is shown of a link
abbrev pub shows_link : Option (List ℕ) → Option Heard
shows_link None = None
shows_link (Some name) = if list_any (λ octet. nat_eq octet 32) name then None else Some (HearsLink name)

abbrev pub text_line : List ℕ → Option Heard
text_line text =
    if bytes_eq text (codes "show timers") then Some (HearsListing Timers)
    else if bytes_eq text (codes "show sets") then Some (HearsListing Sets)
    else if bytes_eq text (codes "show links") then Some (HearsListing Links)
    else if bytes_eq text (codes "show routes") then Some (HearsListing Routes)
    else if bytes_eq text (codes "show settings") then Some HearsSettings
    else shows_link (behind (codes "show link ") text)

-- the title that is tested
abbrev pub tests : Result RowName TitleMistake → Option Heard
tests (Ok name) = Some (HearsTitle name)
tests (Err mistake) = None

abbrev pub test_line : List ℕ → Option Heard
test_line text =
    if bytes_eq (first_word (words text)) (codes "test") then tests (title_tested (rest_of (words text))) else None

-- the lines that only a client writes
abbrev pub own_line : List ℕ → Option Heard
own_line text =
    if bytes_eq text (codes "help") || bytes_eq text (codes "?") then Some HearsHelp
    else if bytes_eq text (codes "users") then Some HearsUsers
    else if bytes_eq text (codes "watch") then Some HearsNotices
    else if bytes_eq text (codes "watch frames") then Some HearsFrames
    else if bytes_eq text (codes "show counters") then Some HearsCounters
    else if bytes_eq text (codes "quit") then Some HearsQuit
    else if bytes_eq text (codes "stop") then Some HearsStop
    else if bytes_eq text (codes "show version") then Some HearsVersion
    else if bytes_eq text (codes "show capture") then Some HearsCaptured
    else if bytes_eq text (codes "show alarms") then Some HearsAlarms
    else either_heard (text_line text) (either_heard (test_line text) (capture_line text))

-- a client submits messages, gives orders and is shown texts; frames, associations and ticks come from the network and
-- the clock
abbrev pub is_for_clients : Asked → Bool
is_for_clients (AskUp link) = false
is_for_clients (AskDown link) = false
is_for_clients (AskFrame link octets) = false
is_for_clients (AskTick ticks) = false
is_for_clients (AskTake link) = false
is_for_clients (AskWants link) = false
is_for_clients (AskSubmit octets) = true
is_for_clients (AskOrder order) = true
is_for_clients (AskShow what) = true

abbrev pub heard_in_script : PointFormat → (line : List ℕ) → Reading → Heard
heard_in_script points line Skips = HearsNothing
heard_in_script points line IsMalformed = HearsNoLine points line
heard_in_script points line (Asks asked) =
    if is_for_clients asked then HearsScript asked else HearsNoLine points line

abbrev pub heard_unless : Option Heard → PointFormat → List ℕ → Heard
heard_unless (Some own) points text = own
heard_unless None points text = heard_in_script points text (parsed_line points text)

-- a line without its end, with points in this format
abbrev pub heard : PointFormat → List ℕ → Heard
heard points text = heard_unless (own_line text) points text

-- what was read says the same
abbrev pub heard_line : ConsoleLine → Heard
heard_line line.Skipped = HearsNothing
heard_line (line.Script asked) = HearsScript (asked_line asked)
heard_line line.Counters = HearsCounters
heard_line (line.Capture is_on name) = HearsCapture is_on (option_map (λ name. name.now) name)
heard_line line.Captured = HearsCaptured
heard_line line.Version = HearsVersion
heard_line line.Alarms = HearsAlarms
heard_line (line.Listing listing) = HearsListing listing
heard_line (line.Link name) = HearsLink name.now
heard_line line.Settings = HearsSettings
heard_line (line.Title name) = HearsTitle name
heard_line line.Help = HearsHelp
heard_line line.Users = HearsUsers
heard_line line.Notices = HearsNotices
heard_line line.Frames = HearsFrames
heard_line line.Quit = HearsQuit
heard_line line.Stop = HearsStop

abbrev pub heard_of : PointFormat → List ℕ → Result ConsoleLine Malformed → Heard
heard_of points text (Ok read) = heard_line read
heard_of points text (Err malformed) = HearsNoLine points text

abbrev pub own_line_of : Option ConsoleLine → Option Heard
own_line_of None = None
own_line_of (Some own) = Some (heard_line own)
