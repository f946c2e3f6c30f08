-- What the texts of a console are to its client.
use Rattle.std.proofs.Common.{◌≡◌, ℕ, zero, suc, List, [], ◌∷◌, ◌++◌, Bool, true, false, Option, None, Some, refl, ap, subst, ◌∙◌, append_assoc, arith, length, inl, inr}
use Rattle.std.specs.Prelude.{codes, decimal, nat_eq, nat_le, ◌||◌, take}
use Rattle.std.specs.Fmt.{digits}
use Rattle.std.proofs.lemmas.Bool.Decides.{nat_tests}
use Rattle.std.proofs.lemmas.Bool.{leb-true}
use Rattle.settings.specs.Configuration.{Configuration}
use Rattle.settings.specs.declared.point.PointFormat.{PointFormat}
use Rattle.signalling_types.specs.Causes.{cause_number, cause_name}
use Rattle.signalling_types.specs.declared.cause.Cause.{Cause}
use Rattle.signalling_types.specs.declared.cause.Cause.TheVariants as cause
use Rattle.signalling_types.specs.declared.notice.Notice.{Notice}
use Rattle.signalling_types.specs.declared.notice.Notice.TheVariants.{Refused, Frame, Failed, Lost, Unsent, Expired, Late, Unbarred}
use Rattle.signalling_types.specs.declared.notice.Unbarring.TheVariants as unbarring
use Rattle.signalling_types.specs.declared.notice.ChangeoverTimer.TheVariants.{T1, T2}
use Rattle.signalling_types.specs.declared.notice.LateTimer.TheVariants.{T3, T4}
use Rattle.signalling_types.specs.declared.outcome.Outcome.TheVariants as outcome
use Rattle.exchange.specs.Calls.{Kept}
use Rattle.console.specs.Names.{name_in}
use Rattle.console.specs.Texts.{refused_text, notice_text, flag_line, loss_line, rerouting_line}
use Rattle.program.specs.ConsoleAnswers.{blanks, is_answer, is_last, is_refusal}
use Rattle.served_node.specs.Captured.{Captured, answer_to, captured_line, order_of}
use Rattle.served_node.specs.Clients.{ClientState}
use Rattle.served_node.specs.WholeLines.{IsTold, IsRefused}
use Rattle.served_node.specs.declared.console_session.client.Ending.{Ending}
use Rattle.served_node.specs.declared.console_session.client.Ending.TheVariants.{Stays, Closes, Leaves, Stops}
use Rattle.served_node.specs.declared.captured_links.CaptureOrder.{CaptureOrder}
use Rattle.served_node.specs.declared.console_session.help.TheConstants.{HELP}
use Rattle.program.specs.ConsoleLaws.{Answers, IsMalformedAnswer, IsSaid, IsHelp, IsOrderAnswer, LinesAnswer, IsNone, AllNone, AnswersNone, ShownAnswersNone, TestsAnswer, outcomes_answer}
use Rattle.settings.specs.Points.{point_text}
use Rattle.console.specs.NearestLinks.{near_link, near_link_text}
use Rattle.console.specs.TitleAnswers.{backup_words, led_line, refusal_line}
use Rattle.console.specs.declared.title_answers.Standing.{Standing}
use Rattle.program.proofs.ShownLines.{line-none, nothing-none}
use Rattle.program.proofs.ConsoleTables.{alarms, listings}
use Rattle.program.proofs.ConsoleSettings.{settings}

-- a line without anything unknown is judged by computing
pub judged : (refuses closes_first closes : Bool) (line : List ℕ) → nat_le (length line) 64 ≡ true → is_answer line ≡ true → is_refusal line ≡ refuses
    → is_last true line ≡ closes_first → is_last false line ≡ closes → Answers refuses closes_first closes (line ++ 10 ∷ [])
judged refuses closes_first closes line short answers says first later = record {
  line = line;
  whole = refl;
  short = leb-true (length line) 64 short;
  answers = answers;
  says = says;
  first = first;
  later = later;
}

-- ---- refusals, and notices of them

-- the line of a refusal
abbrev refused_line : Cause → List ℕ
refused_line why = codes "refused " ++ decimal (cause_number why) ++ codes " " ++ cause_name why

record Reads (why : Cause) : Type 0 where
  outcome : Answers true false false (refused_line why ++ 10 ∷ [])
  notice : (name : List ℕ) → IsNone (refused_text name why)

-- a notice has a blank more, and so many octets of the name are looked at
one-more : (n : ℕ) → (nat_eq (suc (suc (suc n))) 2 || false) ≡ false
one-more n = grind (arith, nat_tests)

reads : (why : Cause) → Reads why
unfolding digits
reads cause.WrongNetwork = record { outcome = judged true false false (refused_line cause.WrongNetwork) refl refl refl refl refl; notice = λ name. one-more (blanks (take 41 name)) }
reads cause.NoLabel = record { outcome = judged true false false (refused_line cause.NoLabel) refl refl refl refl refl; notice = λ name. one-more (blanks (take 46 name)) }
reads cause.UnknownDestination = record { outcome = judged true false false (refused_line cause.UnknownDestination) refl refl refl refl refl; notice = λ name. one-more (blanks (take 35 name)) }
reads cause.NoRoute = record { outcome = judged true false false (refused_line cause.NoRoute) refl refl refl refl refl; notice = λ name. one-more (blanks (take 46 name)) }
reads cause.PoolFull = record { outcome = judged true false false (refused_line cause.PoolFull) refl refl refl refl refl; notice = λ name. one-more (blanks (take 45 name)) }
reads cause.NoUserPart = record { outcome = judged true false false (refused_line cause.NoUserPart) refl refl refl refl refl; notice = λ name. one-more (blanks (take 43 name)) }
reads cause.NotInProfile = record { outcome = judged true false false (refused_line cause.NotInProfile) refl refl refl refl refl; notice = λ name. one-more (blanks (take 41 name)) }
reads cause.BadManagement = record { outcome = judged true false false (refused_line cause.BadManagement) refl refl refl refl refl; notice = λ name. one-more (blanks (take 40 name)) }
reads cause.BadSccp = record { outcome = judged true false false (refused_line cause.BadSccp) refl refl refl refl refl; notice = λ name. one-more (blanks (take 46 name)) }
reads cause.NoNature = record { outcome = judged true false false (refused_line cause.NoNature) refl refl refl refl refl; notice = λ name. one-more (blanks (take 44 name)) }
reads cause.NoDigits = record { outcome = judged true false false (refused_line cause.NoDigits) refl refl refl refl refl; notice = λ name. one-more (blanks (take 44 name)) }
reads cause.Unequipped = record { outcome = judged true false false (refused_line cause.Unequipped) refl refl refl refl refl; notice = λ name. one-more (blanks (take 42 name)) }
reads cause.TooLong = record { outcome = judged true false false (refused_line cause.TooLong) refl refl refl refl refl; notice = λ name. one-more (blanks (take 45 name)) }
reads cause.LostUnconfirmed = record { outcome = judged true false false (refused_line cause.LostUnconfirmed) refl refl refl refl refl; notice = λ name. one-more (blanks (take 37 name)) }
reads cause.ManagementFull = record { outcome = judged true false false (refused_line cause.ManagementFull) refl refl refl refl refl; notice = λ name. one-more (blanks (take 38 name)) }
reads cause.NotFromAdjacent = record { outcome = judged true false false (refused_line cause.NotFromAdjacent) refl refl refl refl refl; notice = λ name. one-more (blanks (take 37 name)) }
reads cause.LinkNotReady = record { outcome = judged true false false (refused_line cause.LinkNotReady) refl refl refl refl refl; notice = λ name. one-more (blanks (take 40 name)) }
reads cause.ChangeoverPending = record { outcome = judged true false false (refused_line cause.ChangeoverPending) refl refl refl refl refl; notice = λ name. one-more (blanks (take 35 name)) }
reads cause.NoMemory = record { outcome = judged true false false (refused_line cause.NoMemory) refl refl refl refl refl; notice = λ name. one-more (blanks (take 44 name)) }
reads cause.TableFull = record { outcome = judged true false false (refused_line cause.TableFull) refl refl refl refl refl; notice = λ name. one-more (blanks (take 43 name)) }
reads cause.DuplicateRow = record { outcome = judged true false false (refused_line cause.DuplicateRow) refl refl refl refl refl; notice = λ name. one-more (blanks (take 40 name)) }
reads cause.NoSuchName = record { outcome = judged true false false (refused_line cause.NoSuchName) refl refl refl refl refl; notice = λ name. one-more (blanks (take 42 name)) }
reads cause.HopCounter = record { outcome = judged true false false (refused_line cause.HopCounter) refl refl refl refl refl; notice = λ name. one-more (blanks (take 42 name)) }
reads cause.ShareFull = record { outcome = judged true false false (refused_line cause.ShareFull) refl refl refl refl refl; notice = λ name. one-more (blanks (take 43 name)) }
reads cause.SubsystemProhibited = record { outcome = judged true false false (refused_line cause.SubsystemProhibited) refl refl refl refl refl; notice = λ name. one-more (blanks (take 33 name)) }

-- ---- outcomes

queued-answers : (name : List ℕ) → blanks name ≡ 0 → is_answer (codes "queued " ++ name) ≡ true
queued-answers name none = ap (λ (n : ℕ). nat_eq (suc n) 1) none

pub outcomes : outcomes_answer
outcomes name (outcome.Queued link) none short = record {
  line = codes "queued " ++ name;
  whole = refl;
  short = omega (arith, short);
  answers = queued-answers name none;
  says = refl;
  first = refl;
  later = refl;
}
outcomes name outcome.Held none short = judged false false false (codes "held") refl refl refl refl refl
outcomes name outcome.Local none short = judged false false false (codes "local") refl refl refl refl refl
outcomes name outcome.Handled none short = judged false false false (codes "handled") refl refl refl refl refl
outcomes name outcome.Ignored none short = judged true false false (codes "ignored") refl refl refl refl refl
outcomes name (outcome.Refused why) none short = (reads why).outcome

-- ---- other lines

told-said : (IsText : List ℕ → Type 0) (text : List ℕ) (last ending : Ending) (old new : ClientState) → IsText text → IsTold text last ending old new → IsSaid IsText old new
told-said IsText text last Closes old new is told = inl told
told-said IsText text last Stays old new is told = inr (text, is, told.1)
told-said IsText text last Leaves old new is told = inr (text, is, told.1)
told-said IsText text last Stops old new is told = inr (text, is, told.1)

-- whatever is wrong, it is said behind the same words
malformed : (why : List ℕ) → IsMalformedAnswer (codes "malformed: " ++ (why ++ codes "\n"))
malformed why = record { line = codes "malformed: " ++ why; whole = refl; answers = refl; says = refl; first = refl; later = refl }

malformed-said : (points : PointFormat) (line : List ℕ) (is_first : Bool) (ending : Ending) (old new : ClientState) → IsRefused points line is_first ending old new → IsSaid IsMalformedAnswer old new
malformed-said points line is_first Stays old new (late, (lacks_memory, is)) = inr (_, malformed _, is)
malformed-said points line is_first Closes old new (inl full) = inl full
malformed-said points line is_first Closes old new (inr (first, (lacks_memory, is))) = inr (_, malformed _, is)
malformed-said points line is_first Leaves old new refused = absurd refused
malformed-said points line is_first Stops old new refused = absurd refused

watching : Answers false false false (codes "handled\n")
watching = judged false false false (codes "handled") refl refl refl refl refl

stopping : Answers false true true (codes "stopping\n")
stopping = judged false true true (codes "stopping") refl refl refl refl refl

-- an order about what is captured
done-or-ignored : (order : CaptureOrder) (captured : Captured) (is_there : Bool) → captured.is_there ≡ is_there → IsOrderAnswer (answer_to (Some order) captured)
done-or-ignored order captured true there = rw there (inl watching)
done-or-ignored order captured false there = rw there (inr (judged true false false (codes "ignored") refl refl refl refl refl))

ordered : (order : Option CaptureOrder) (captured : Captured) → IsOrderAnswer (answer_to order captured)
ordered None captured = inr (judged true false false (codes "refused 22 NoSuchName") refl refl refl refl refl)
ordered (Some order) captured = done-or-ignored order captured captured.is_there refl

pub others : LinesAnswer
others = record {
  malformed = λ points line is_first counters captured captured_after ending s after old new does. malformed-said points line is_first ending old new does.2;
  users = λ is_first counters captured captured_after ending s after old new does. told-said (Answers false false false) _ Stays ending _ new watching does.2;
  notices = λ is_first counters captured captured_after ending s after old new does. told-said (Answers false false false) _ Stays ending _ new watching does.2;
  frames = λ is_first counters captured captured_after ending s after old new does. told-said (Answers false false false) _ Stays ending _ new watching does.2;
  help = λ is_first counters captured captured_after ending s after old new does. told-said IsHelp HELP.now Stays ending old new refl does.2;
  quit = λ is_first counters captured captured_after ending s after old new does. told-said (Answers false false false) _ Leaves ending _ new watching does.2;
  stop = λ is_first counters captured captured_after ending s after old new does. told-said (Answers false true true) _ Stops ending old new stopping does.2;
  capture = λ is_on name is_first counters captured captured_after ending s after old new does. told-said IsOrderAnswer _ Stays ending old new (ordered (order_of s.settings is_on name) captured) does.2;
}

-- ---- what is shown

notices : (points : PointFormat) (c : Configuration) (notice : Notice) → IsNone (notice_text points c notice)
notices points c (Refused why link) = (reads why).notice (name_in c link)
notices points c (Frame fault link) = refl
notices points c (Failed link reason) = refl
notices points c (Lost why point sls) = refl
notices points c (Unsent why point) = refl
notices points c (Expired T1 link) = refl
notices points c (Expired T2 link) = refl
notices points c (Unbarred unbarring.T2 link) = refl
notices points c (Unbarred unbarring.Operator link) = refl
notices points c (Late T3 link) = refl
notices points c (Late T4 code) = refl

-- a line that is there
there : (front line : List ℕ) → IsNone front → Some front ≡ Some line → IsNone line
there front line none e = let same : front ≡ line = cc e in rw (← same) none

flags : (s : Kept) (k : ℕ) (line : List ℕ) → flag_line s k ≡ Some line → IsNone line
flags s zero line e = there _ line refl e
flags s (suc zero) line e = there _ line refl e
flags s (suc (suc k)) line e = cc e

losses : (s : Kept) (k : ℕ) (line : List ℕ) → loss_line s k ≡ Some line → IsNone line
losses s zero line e = there _ line refl e
losses s (suc zero) line e = there _ line refl e
losses s (suc (suc k)) line e = cc e

captured-lines : (name : List ℕ) (is_on : Bool) → IsNone (captured_line name is_on)
captured-lines name true = refl
captured-lines name false = refl

reroutings : (s : Kept) (k : ℕ) (line : List ℕ) → rerouting_line s k ≡ Some line → IsNone line
reroutings s zero line e = there _ line refl e
reroutings s (suc k) line e = cc e

version : AnswersNone (codes "stp 0.1.0\n")
version = record { line = codes "stp 0.1.0"; whole = refl; none = refl }

near : (name : Option (List ℕ)) → AllNone (near_link_text name)
near (Some name) = line-none (codes "the nearest link is " ++ name) refl
near None = nothing-none

leads : (points : PointFormat) (stands : Standing) (first point : ℕ) → AllNone (led_line points stands first point None)
leads points stands first point = line-none (codes "leads to " ++ point_text points point ++ backup_words points stands first point) refl

-- the line of a refusal is that of an outcome
refusal : (why : Cause) → refused_line why ++ 10 ∷ [] ≡ refusal_line why
refusal why =
    let number = decimal (cause_number why) in
    ap (λ (line : List ℕ). line ++ 10 ∷ [])
    (ap (λ (line : List ℕ). line ++ cause_name why) (append_assoc (codes "refused ") number (codes " ")) ∙ append_assoc (codes "refused ") (number ++ codes " ") (cause_name why))

pub shown : ShownAnswersNone
shown = record {
  titles = λ points row. refl;
  subsystems = λ points subsystem. refl;
  notices = notices;
  flags = flags;
  losses = losses;
  reroutings = reroutings;
  counters = λ counter name value. refl;
  datagrams = λ name value. refl;
  version = λ is_first counters captured captured_after ending s after old new does. told-said AnswersNone _ Stays ending old new version does.2;
  captured = captured-lines;
  alarms = alarms;
  listings = listings;
  settings = settings;
  near = near;
  leads = leads;
}

pub tests : TestsAnswer
tests = record {
  no_link = λ lacks_memory c name. (near_link_text (near_link lacks_memory c.links name), refl, near (near_link lacks_memory c.links name));
  refused = λ why. subst (Answers true false false) (refusal why) (reads why).outcome;
}
