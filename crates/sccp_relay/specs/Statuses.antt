-- What is known of the subsystems at other points (Q.714 §5.2, §5.3.2 to §5.3.4): which of those that rows lead to are
-- prohibited. All others are allowed.
use Rattle.std.specs.Prelude.{ℕ, Bool, false, not, ◌&&◌, ◌||◌, nat_eq, nat_le, if◌then◌else◌, List, [], ◌∷◌, ◌++◌, filter, length, ◌-◌, Option, Some, None}
use Rattle.std.specs.List.{list_any}
use Rattle.settings.specs.Configuration.{TitleEntry}
use Rattle.settings.specs.declared.title_row.TitleRoute.{TitleRoute}
use Rattle.settings.specs.declared.title_row.TitleRoute.TheVariants as route
use Rattle.sccp_relay.specs.Rows.{table_of}
use Rattle.sccp_relay.specs.declared.subsystem.ProhibitedSubsystem.{ProhibitedSubsystem}
use Rattle.sccp_relay.specs.declared.subsystem.Subsystem.{Subsystem}
use Rattle.sccp_relay.specs.declared.subsystem.SubsystemNews.{SubsystemNews}
use Rattle.sccp_relay.specs.declared.subsystem.TheConstants.{PROHIBITED_SUBSYSTEMS}

-- the translation rows, in their order, and which of the subsystems that they lead to are prohibited
pub record TitlesValue : Type 0 where
  pub rows : List TitleEntry
  pub prohibited : List ProhibitedSubsystem

-- these rows, with all subsystems allowed, as when a node starts (§5.2)
abbrev pub first_titles : List TitleEntry → TitlesValue
first_titles rows = record { rows = table_of rows; prohibited = [] }

-- the same point and number
abbrev pub is_same : Subsystem → Subsystem → Bool
is_same one other = nat_eq one.point other.point && nat_eq one.ssn other.ssn

abbrev pub is_prohibited : List ProhibitedSubsystem → Subsystem → Bool
is_prohibited prohibited subsystem = list_any (λ other. is_same subsystem other.subsystem) prohibited

-- as many are as there may be
abbrev pub is_full : List ProhibitedSubsystem → Bool
is_full prohibited = nat_le PROHIBITED_SUBSYSTEMS (length prohibited)

-- ---- what rows lead to

-- whether a row is routed by this subsystem number
abbrev pub is_for : TitleRoute → (ssn : ℕ) → Bool
is_for (route.Title number) ssn = false
is_for (route.Ssn number) ssn = nat_eq number ssn

abbrev pub is_backup : Option ℕ → (point : ℕ) → Bool
is_backup None point = false
is_backup (Some backup) point = nat_eq backup point

-- whether a row leads to a subsystem, at its point or at its backup
abbrev pub leads_to : Subsystem → TitleEntry → Bool
leads_to subsystem row =
    is_for row.route subsystem.ssn && (nat_eq row.point subsystem.point || is_backup row.backup subsystem.point)

-- ---- the countdown to the next test of a prohibited subsystem (§5.3.4)

-- its first test comes so many ticks after it was prohibited
abbrev pub first_prohibited : (sst : ℕ) → Subsystem → ProhibitedSubsystem
first_prohibited sst subsystem = record { subsystem = subsystem; ticks = sst }

-- a test is due: no tick is left
abbrev pub is_due : ProhibitedSubsystem → Bool
is_due prohibited = nat_eq prohibited.ticks 0

-- a tick: one less is left; if a test was due, the next one comes so many ticks after it
abbrev pub counted : (sst : ℕ) → ProhibitedSubsystem → ProhibitedSubsystem
counted sst prohibited = record prohibited { ticks = (if is_due prohibited then sst else prohibited.ticks) - 1 }

-- ---- SSP and SSA

-- one more subsystem is prohibited, if a row leads to it; 256 are at most
abbrev pub prohibit : (sst : ℕ) → Subsystem → TitlesValue → TitlesValue
prohibit sst subsystem titles =
    if is_prohibited titles.prohibited subsystem || is_full titles.prohibited then titles
    else if list_any (leads_to subsystem) titles.rows
    then record titles { prohibited = titles.prohibited ++ first_prohibited sst subsystem ∷ [] }
    else titles

-- it is allowed again
abbrev pub allow : Subsystem → TitlesValue → TitlesValue
allow subsystem titles =
    record titles { prohibited = filter (λ other. not (is_same subsystem other.subsystem)) titles.prohibited }

-- an SSP or an SSA is heard: only a point itself says what is the case with its subsystems
abbrev pub heard : (sst : ℕ) → SubsystemNews → TitlesValue → TitlesValue
heard sst news titles =
    if not (nat_eq news.sender news.subsystem.point) then titles
    else if news.is_prohibited then prohibit sst news.subsystem titles
    else allow news.subsystem titles
