-- What becomes of a title that is tested: which row translates it, and where that leads a message of link selection 0
-- that came from no backup; or the cause for which it is refused (Q.714 §2.4, §5.3.2).
use Rattle.std.specs.Prelude.{ℕ, Bool, false, not, nat_eq, is_some, if◌then◌else◌, List, [], ◌++◌, codes, Option, None, Some, Result, Ok, Err}
use Rattle.settings.specs.Configuration.{Configuration, TitleEntry}
use Rattle.settings.specs.Points.{point_text}
use Rattle.settings.specs.Readings.{destination_place}
use Rattle.settings.specs.declared.point.PointFormat.{PointFormat}
use Rattle.settings.specs.declared.title_row.TitleRoute.{TitleRoute}
use Rattle.settings.specs.declared.title_row.TitleRoute.TheVariants as route
use Rattle.signalling_types.specs.declared.cause.Cause.{Cause}
use Rattle.signalling_types.specs.declared.cause.Cause.TheVariants as cause
use Rattle.sccp_relay.specs.Points.{OwnValue, is_barred, is_out, is_reached, point_by}
use Rattle.sccp_relay.specs.Relay.{is_equipped}
use Rattle.sccp_relay.specs.Statuses.{TitlesValue}
use Rattle.sccp_relay.specs.Translation.{translation}
use Rattle.sccp_relay.specs.declared.subsystem.ProhibitedSubsystem.{ProhibitedSubsystem}
use Rattle.console.specs.Texts.{cause_text, title_text}
use Rattle.console.specs.declared.title_answers.Standing.{Standing}
use Rattle.console.specs.declared.title_answers.Standing.TheVariants as standing
use Rattle.console.specs.declared.title_words.RowName.{RowName}

-- how a point stands for messages that a row leads there: no link leads to it, its subsystem is prohibited, or neither
abbrev pub standing_of : OwnValue → List ProhibitedSubsystem → TitleRoute → (point : ℕ) → Standing
standing_of own prohibited to point =
    if is_reached own 0 point
    then (if is_out prohibited to point then standing.Prohibited else standing.Open)
    else standing.Unreached

-- the point that a row leads to; none while the subsystem is prohibited wherever it is reached
abbrev pub point_led : OwnValue → List ProhibitedSubsystem → TitleEntry → Option ℕ
point_led own prohibited row =
    if is_barred own prohibited None 0 row then None else Some (point_by own prohibited None 0 row)

abbrev pub unless_prohibited : Standing → (point : ℕ) → Option ℕ
unless_prohibited standing.Open point = Some point
unless_prohibited standing.Prohibited point = None
unless_prohibited standing.Unreached point = Some point

-- the number of the subsystem that a row leads to, if it says one
abbrev pub number_of : TitleRoute → Option ℕ
number_of (route.Title number) = number
number_of (route.Ssn number) = Some number

-- at this node a subsystem has to be there; elsewhere a link has to lead to the point
abbrev pub is_missing : OwnValue → Option ℕ → Bool
is_missing own None = false
is_missing own (Some ssn) = not (is_equipped own (Some ssn))

abbrev pub refusal_at : OwnValue → Configuration → TitleRoute → (point : ℕ) → Option Cause
refusal_at own c to point =
    if nat_eq point own.point then (if is_missing own (number_of to) then Some cause.Unequipped else None)
    else if own.leads point 0 then None
    else if is_some (destination_place c point) then Some cause.NoRoute
    else Some cause.UnknownDestination

-- ---- in words

abbrev pub refusal_line : Cause → List ℕ
refusal_line cause = codes "refused " ++ cause_text cause ++ codes "\n"

-- why the row's own point isn't taken
abbrev pub why_not : Standing → List ℕ
why_not standing.Open = codes ", the backup of "
why_not standing.Prohibited = codes ", the backup: the subsystem is prohibited at "
why_not standing.Unreached = codes ", the backup: no link leads to "

abbrev pub backup_words : PointFormat → Standing → (first point : ℕ) → List ℕ
backup_words points first_stands first point =
    if nat_eq point first then [] else why_not first_stands ++ point_text points first

abbrev pub led_line : PointFormat → Standing → (first point : ℕ) → Option Cause → List ℕ
led_line points first_stands first point None =
    codes "leads to " ++ point_text points point ++ backup_words points first_stands first point ++ codes "\n"
led_line points first_stands first point (Some cause) = refusal_line cause

abbrev pub line_led : PointFormat → OwnValue → List ProhibitedSubsystem → Configuration → TitleEntry → Option ℕ → List ℕ
line_led points own prohibited c row None = refusal_line cause.SubsystemProhibited
line_led points own prohibited c row (Some point) =
    led_line points (standing_of own prohibited row.route row.point) row.point point (refusal_at own c row.route point)

abbrev pub row_lines : PointFormat → OwnValue → List ProhibitedSubsystem → Configuration → TitleEntry → List ℕ
row_lines points own prohibited c row =
    title_text points row ++ codes "\n" ++ line_led points own prohibited c row (point_led own prohibited row)

abbrev pub title_answer_by :
    PointFormat → OwnValue → List ProhibitedSubsystem → Configuration → Result TitleEntry Cause → List ℕ
title_answer_by points own prohibited c (Err cause) = refusal_line cause
title_answer_by points own prohibited c (Ok row) = row_lines points own prohibited c row

abbrev pub title_answer : PointFormat → OwnValue → TitlesValue → Configuration → RowName → List ℕ
title_answer points own titles c name =
    title_answer_by points own titles.prohibited c (translation titles.rows name.key name.digits.items)
