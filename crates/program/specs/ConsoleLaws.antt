-- What a console answers and shows, as its client reads it.
use Rattle.std.specs.Prelude.{◌≡◌, ◌⊎◌, ℕ, ◌≤◌, Bool, true, false, List, [], ◌∷◌, ◌++◌, length, take}
use Rattle.std.specs.Prelude.{Option, None, Some, codes}
use Rattle.settings.specs.Configuration.{Configuration, TitleEntry}
use Rattle.signalling_types.specs.declared.limits.TheConstants.Limits.{NAME_OCTETS}
use Rattle.signalling_types.specs.declared.notice.Notice.{Notice}
use Rattle.signalling_types.specs.declared.outcome.Outcome.{Outcome}
use Rattle.signalling_types.specs.declared.outcome.Outcome.TheVariants.{Queued, Held, Local, Handled, Ignored, Refused}
use Rattle.settings.specs.declared.point.PointFormat.{PointFormat}
use Rattle.sccp_relay.specs.declared.subsystem.Subsystem.{Subsystem}
use Rattle.exchange.specs.Calls.{Kept}
use Rattle.served_link.specs.declared.counter.Counter.{Counter}
use Rattle.served_link.specs.Lines.{counter_line, datagram_line}
use Rattle.console.specs.Texts.{title_text, subsystem_text, notice_text, flag_line, loss_line, rerouting_line}
use Rattle.script.specs.Texts.{outcome_line}
use Rattle.served_link.specs.declared.row.LinkCounters.{LinkCounters}
use Rattle.served_link.specs.declared.service_states.StateSince.{StateSince}
use Rattle.console.specs.NearestLinks.{near_link_text, no_link_text}
use Rattle.console.specs.TitleAnswers.{led_line, refusal_line}
use Rattle.console.specs.declared.title_answers.Standing.{Standing}
use Rattle.signalling_types.specs.declared.cause.Cause.{Cause}
use Rattle.served_node.specs.Alarmed.{alarms_text}
use Rattle.served_node.specs.Listings.{listing_text, settings_text}
use Rattle.served_node.specs.declared.console_session.listing.Listing.{Listing}
use Rattle.served_node.specs.Captured.{Captured, captured_line}
use Rattle.served_node.specs.Clients.{ClientState, told_of, untold}
use Rattle.served_node.specs.Lines.{Heard as Line, HearsUsers, HearsNotices, HearsFrames, HearsHelp, HearsQuit, HearsStop, HearsVersion}
use Rattle.served_node.specs.Lines.{HearsCapture, HearsNoLine}
use Rattle.served_node.specs.WholeLines.{DoesHeard, Shown, answered, unanswered}
use Rattle.served_node.specs.declared.console_session.client.Ending.{Ending}
use Rattle.served_node.specs.declared.console_session.client.News.TheVariants as news
use Rattle.program.specs.ConsoleAnswers.{blanks, is_answer, is_last, is_refusal, read, nothing}

-- ---- what is an answer

-- A text is a line that answers another one, short enough to be looked at whole. It says whether something wasn't done,
-- and whether the console closes the connection behind it, as the first line that comes or as a later one.
pub record Answers (refuses closes_first closes : Bool) (text : List ℕ) : Type 0 where
  pub line : List ℕ
  pub whole : text ≡ line ++ 10 ∷ []
  pub short : length line ≤ 64
  pub answers : is_answer line ≡ true
  pub says : is_refusal line ≡ refuses
  pub first : is_last true line ≡ closes_first
  pub later : is_last false line ≡ closes

-- an outcome says that something wasn't done
abbrev pub is_undone : Outcome → Bool
is_undone (Queued link) = false
is_undone Held = false
is_undone Local = false
is_undone Handled = false
is_undone Ignored = true
is_undone (Refused cause) = true

-- each outcome is an answer, whichever name without a blank its link has
abbrev pub outcomes_answer : Type 0
outcomes_answer =
    (name : List ℕ) (outcome : Outcome) → blanks name ≡ 0 → length name ≤ NAME_OCTETS
    → Answers (is_undone outcome) false false (outcome_line name outcome)

-- what a line of a client does: it is answered such a text, unless there was no room for that
abbrev pub IsSaid : (IsText : List ℕ → Type 0) → (old new : ClientState) → Type 0
IsSaid IsText old new = (new ≡ unanswered old) ⊎ ((text : List ℕ) × IsText text × (new ≡ answered old text))

abbrev pub Says : Line → (ClientState → ClientState) → (IsText : List ℕ → Type 0) → Type 0
Says line begun IsText =
    (is_first : Bool) (shown : Shown) (captured captured_after : Captured) (ending : Ending) (s after : Kept)
    (old new : ClientState) → DoesHeard line is_first shown captured captured_after ending s after old new
    → IsSaid IsText (begun old) new

-- A line says that another one is malformed: something wasn't done, and the console closes the connection if this is the
-- first line that comes. What is looked at of it is enough to tell.
pub record IsMalformedAnswer (text : List ℕ) : Type 0 where
  pub line : List ℕ
  pub whole : text ≡ line ++ 10 ∷ []
  pub answers : is_answer (take 64 line) ≡ true
  pub says : is_refusal (take 64 line) ≡ true
  pub first : is_last true (take 64 line) ≡ true
  pub later : is_last false (take 64 line) ≡ false

-- of the text of `help` the first line is an answer, and no other
abbrev pub IsHelp : List ℕ → Type 0
IsHelp text = read text nothing ≡ record nothing { is_first = false; answers = 1 }

-- an order is done, or isn't
abbrev pub IsOrderAnswer : List ℕ → Type 0
IsOrderAnswer text = Answers false false false text ⊎ Answers true false false text

-- what other lines are answered
pub record LinesAnswer : Type 0 where
  pub malformed : (points : PointFormat) (line : List ℕ) → Says (HearsNoLine points line) (λ old. old) IsMalformedAnswer
  pub users : Says HearsUsers (λ old. told_of old news.Message) (Answers false false false)
  pub notices : Says HearsNotices (λ old. told_of old news.Notice) (Answers false false false)
  pub frames : Says HearsFrames (λ old. told_of old news.Frame) (Answers false false false)
  pub help : Says HearsHelp (λ old. old) IsHelp
  pub quit : Says HearsQuit untold (Answers false false false)
  pub stop : Says HearsStop (λ old. old) (Answers false true true)
  pub capture : (is_on : Bool) (name : Option (List ℕ)) → Says (HearsCapture is_on name) (λ old. old) IsOrderAnswer

-- ---- what is none

-- a line answers none, by what is looked at of it
abbrev pub IsNone : List ℕ → Type 0
IsNone line = is_answer (take 64 line) ≡ false

-- a text is a line that answers none
pub record AnswersNone (text : List ℕ) : Type 0 where
  pub line : List ℕ
  pub whole : text ≡ line ++ 10 ∷ []
  pub none : IsNone line

-- lines, each with its line feed
abbrev pub ended_lines : List (List ℕ) → List ℕ
ended_lines [] = []
ended_lines (line ∷ lines) = line ++ (10 ∷ ended_lines lines)

abbrev pub AreNone : List (List ℕ) → Type 0
AreNone [] = Unit {0}
AreNone (line ∷ lines) = IsNone line × AreNone lines

-- a text has whole lines, perhaps none, and none of them answers another one
pub record AllNone (text : List ℕ) : Type 0 where
  pub lines : List (List ℕ)
  pub whole : text ≡ ended_lines lines
  pub none : AreNone lines

-- what is shown, and notices, answer none
pub record ShownAnswersNone : Type 0 where
  pub titles : (points : PointFormat) (row : TitleEntry) → IsNone (title_text points row)
  pub subsystems : (points : PointFormat) (subsystem : Subsystem) → IsNone (subsystem_text points subsystem)
  pub notices : (points : PointFormat) (c : Configuration) (notice : Notice) → IsNone (notice_text points c notice)
  pub flags : (s : Kept) (k : ℕ) (line : List ℕ) → flag_line s k ≡ Some line → IsNone line
  pub losses : (s : Kept) (k : ℕ) (line : List ℕ) → loss_line s k ≡ Some line → IsNone line
  pub reroutings : (s : Kept) (k : ℕ) (line : List ℕ) → rerouting_line s k ≡ Some line → IsNone line
  pub counters : (counter : Counter) (name : List ℕ) (value : ℕ) → IsNone (counter_line counter name value)
  pub datagrams : (name : List ℕ) (value : ℕ) → IsNone (datagram_line name value)
  pub version : Says HearsVersion (λ old. old) AnswersNone
  pub captured : (name : List ℕ) (is_on : Bool) → IsNone (captured_line name is_on)
  pub alarms : (points : PointFormat) (c : Configuration) (table : List (Option ℕ)) → AllNone (alarms_text points c table)
  pub listings : (points : PointFormat) (tick_ms : ℕ) (states : List StateSince) (counts : List LinkCounters) (s : Kept)
      (listing : Listing) → AllNone (listing_text points tick_ms states counts s listing)
  pub settings : (points : PointFormat) (s : Kept) → AllNone (settings_text points s)
  pub near : (name : Option (List ℕ)) → AllNone (near_link_text name)
  pub leads : (points : PointFormat) (stands : Standing) (first point : ℕ)
      → AllNone (led_line points stands first point None)

-- a name that no link has, and a title that is refused, are answered by a refusal, behind what shows nothing
pub record TestsAnswer : Type 0 where
  pub no_link : (lacks_memory : Bool) (c : Configuration) (name : List ℕ)
      → (near : List ℕ) × (no_link_text lacks_memory c name ≡ codes "refused 22 NoSuchName\n" ++ near)
      × AllNone near
  pub refused : (cause : Cause) → Answers true false false (refusal_line cause)
