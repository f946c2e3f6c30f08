-- The point that a row leads a message to (Q.714 §2.4, §5.3.2): its own, or its backup.
use Rattle.std.specs.Prelude.{ℕ, Bool, false, not, ◌&&◌, ◌||◌, nat_eq, if◌then◌else◌, List, Option, Some, None, Result, Ok, Err}
use Rattle.settings.specs.Configuration.{TitleEntry}
use Rattle.settings.specs.declared.title_row.TitleRoute.{TitleRoute}
use Rattle.settings.specs.declared.title_row.TitleRoute.TheVariants as route
use Rattle.signalling_types.specs.declared.cause.Cause.{Cause}
use Rattle.signalling_types.specs.declared.cause.Cause.TheVariants.{SubsystemProhibited}
use Rattle.sccp_relay.specs.Statuses.{is_prohibited}
use Rattle.sccp_relay.specs.declared.subsystem.ProhibitedSubsystem.{ProhibitedSubsystem}

-- the point that a node is, and the numbers of the subsystems that are there; whether extended messages are relayed,
-- whether tests of these subsystems are answered, and whether it is heard what other points say of theirs; and whether
-- a link leads to a point, for messages of a link selection
pub record OwnValue : Type 0 where
  pub point : ℕ
  pub subsystems : List ℕ
  pub extended : Bool
  pub answers_tests : Bool
  pub hears_statuses : Bool
  pub leads : (point sls : ℕ) → Bool

-- whether messages of this link selection reach a point: it is this one, or a link leads to it
abbrev pub is_reached : OwnValue → (sls point : ℕ) → Bool
is_reached own sls point = nat_eq point own.point || own.leads point sls

-- whether the subsystem that a row leads to, by its number, is prohibited at this point. By title it isn't known yet
-- which subsystem it is
abbrev pub is_out : List ProhibitedSubsystem → TitleRoute → (point : ℕ) → Bool
is_out prohibited (route.Title number) point = false
is_out prohibited (route.Ssn number) point = is_prohibited prohibited (record { point = point; ssn = number })

-- whether a message can be led there: they reach the point, and its subsystem isn't prohibited
abbrev pub is_open : OwnValue → List ProhibitedSubsystem → (sls : ℕ) → TitleRoute → (point : ℕ) → Bool
is_open own prohibited sls to point = is_reached own sls point && not (is_out prohibited to point)

-- whether they reach the point, and its subsystem is prohibited
abbrev pub is_shut : OwnValue → List ProhibitedSubsystem → (sls : ℕ) → TitleRoute → (point : ℕ) → Bool
is_shut own prohibited sls to point = is_out prohibited to point && is_reached own sls point

-- whether a point is the one that a message came from
abbrev pub is_sender : Option ℕ → (point : ℕ) → Bool
is_sender None point = false
is_sender (Some sender) point = nat_eq point sender

-- a backup serves a message that can be led there, and that didn't come from there
abbrev pub is_backup_open : OwnValue → List ProhibitedSubsystem → (sender : Option ℕ) → (sls : ℕ) → TitleRoute
    → (backup : ℕ) → Bool
is_backup_open own prohibited sender sls to backup =
    is_open own prohibited sls to backup && not (is_sender sender backup)

abbrev pub point_or : OwnValue → List ProhibitedSubsystem → (sender : Option ℕ) → (sls : ℕ) → TitleRoute
    → (point : ℕ) → (backup : Option ℕ) → ℕ
point_or own prohibited sender sls to point None = point
point_or own prohibited sender sls to point (Some backup) =
    if not (is_open own prohibited sls to point) && is_backup_open own prohibited sender sls to backup
    then backup
    else point

-- the point that a row leads to: its own; its backup while it can be led to that alone
unfoldable pub point_by : OwnValue → List ProhibitedSubsystem → (sender : Option ℕ) → (sls : ℕ) → TitleEntry → ℕ
point_by own prohibited sender sls row = point_or own prohibited sender sls row.route row.point row.backup

-- whether it can be led to neither, though one of them is reached, since the subsystem there is prohibited
abbrev pub is_barred_with : OwnValue → List ProhibitedSubsystem → (sender : Option ℕ) → (sls : ℕ) → TitleRoute
    → (point : ℕ) → (backup : Option ℕ) → Bool
is_barred_with own prohibited sender sls to point None = is_shut own prohibited sls to point
is_barred_with own prohibited sender sls to point (Some backup) =
    (is_shut own prohibited sls to point
    || is_shut own prohibited sls to backup && not (is_open own prohibited sls to point))
    && not (is_backup_open own prohibited sender sls to backup)

unfoldable pub is_barred : OwnValue → List ProhibitedSubsystem → (sender : Option ℕ) → (sls : ℕ) → TitleEntry → Bool
is_barred own prohibited sender sls row =
    is_barred_with own prohibited sender sls row.route row.point row.backup

-- the row, if its subsystem isn't prohibited
abbrev pub unless_barred : OwnValue → List ProhibitedSubsystem → (sender : Option ℕ) → (sls : ℕ)
    → Result TitleEntry Cause → Result TitleEntry Cause
unless_barred own prohibited sender sls (Err cause) = Err cause
unless_barred own prohibited sender sls (Ok row) =
    if is_barred own prohibited sender sls row then Err SubsystemProhibited else Ok row
