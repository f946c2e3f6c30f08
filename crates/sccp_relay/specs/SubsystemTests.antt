-- Tests of the prohibited subsystems at other points: when one is due, what it says, and which subsystems are allowed
-- again without an answer (Q.714 §5.2.2, §5.2.3, §5.3.4).
use Rattle.std.specs.Prelude.{ℕ, Bool, not, ◌&&◌, ◌||◌, List, ◌++◌, filter, map}
use Rattle.std.specs.List.{list_any}
use Rattle.settings.specs.Configuration.{TitleEntry}
use Rattle.mtp3_codec.specs.Headings.{label_octets}
use Rattle.sccp_codec.specs.Management.{ManagementValue}
use Rattle.sccp_codec.specs.declared.management.ManagementKind.TheVariants.{SubsystemStatusTest}
use Rattle.sccp_relay.specs.Points.{OwnValue, is_reached}
use Rattle.sccp_relay.specs.Relay.{said}
use Rattle.sccp_relay.specs.Sccp.{sccp_octets}
use Rattle.sccp_relay.specs.Statuses.{TitlesValue, counted, is_due, leads_to}
use Rattle.sccp_relay.specs.declared.subsystem.ProhibitedSubsystem.{ProhibitedSubsystem}
use Rattle.sccp_relay.specs.declared.subsystem.Subsystem.{Subsystem}

-- ---- a tick

-- the link selection of a test
abbrev pub test_selection : ℕ
test_selection = 0

-- whether a test reaches a point
abbrev pub is_test_led : OwnValue → (point : ℕ) → Bool
is_test_led own point = is_reached own test_selection point

-- whether a subsystem stays prohibited: as long as its point is reached (§5.2.2, §5.2.3), and, once a test of it is
-- due, if a row still leads to it
abbrev pub stays : OwnValue → List TitleEntry → ProhibitedSubsystem → Bool
stays own rows prohibited =
    is_test_led own prohibited.subsystem.point
    && (not (is_due prohibited) || list_any (leads_to prohibited.subsystem) rows)

-- a tick: each has one tick less until its next test, and those that don't stay prohibited are allowed again
abbrev pub ticked : OwnValue → (sst : ℕ) → TitlesValue → TitlesValue
ticked own sst titles =
    record titles { prohibited = filter (stays own titles.rows) (map (counted sst) titles.prohibited) }

-- ---- the tests

-- an SST about a subsystem; its multiplicity indicator is 0
abbrev pub test_about : Subsystem → ManagementValue
test_about subsystem = record {
  kind = SubsystemStatusTest;
  ssn = subsystem.ssn;
  point = subsystem.point;
  multiplicity = 0;
}

-- the signalling information field of a test: from SCCP management of this point to that of the subsystem's
abbrev pub test_field : (own : ℕ) → Subsystem → List ℕ
test_field own subsystem =
    label_octets (record { dpc = subsystem.point; opc = own; sls = test_selection })
    ++ sccp_octets (said (test_about subsystem))

-- the subsystems of which a test is due, in the order in which they were heard of
abbrev pub due_tests : TitlesValue → List Subsystem
due_tests titles = map (λ prohibited. prohibited.subsystem) (filter is_due titles.prohibited)
