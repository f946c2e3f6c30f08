-- The kinds of management messages and link tests that are counted by themselves (Q.704 §15, Q.707 §5).
use Rattle.std.specs.Prelude.{ℕ, List, codes, nat_eq, slice_get, if◌then◌else◌, Option, None, Some}
use Rattle.signalling_types.specs.Message.{Message, service_indicator}
use Rattle.mtp3_codec.specs.Headings.{heading}
use Rattle.served_link.specs.declared.management_kind.ManagementKind.{ManagementKind}
use Rattle.served_link.specs.declared.management_kind.ManagementKind.TheVariants as kind

-- the kind of a management message, by its heading
abbrev pub kind_of_heading : ℕ → Option ManagementKind
kind_of_heading octet =
    if nat_eq octet (heading 1 1) then Some kind.ChangeoverOrder
    else if nat_eq octet (heading 1 2) then Some kind.ChangeoverAcknowledgement
    else if nat_eq octet (heading 1 3) then Some kind.ExtendedChangeoverOrder
    else if nat_eq octet (heading 1 4) then Some kind.ExtendedChangeoverAcknowledgement
    else if nat_eq octet (heading 1 5) then Some kind.ChangebackDeclaration
    else if nat_eq octet (heading 1 6) then Some kind.ChangebackAcknowledgement
    else if nat_eq octet (heading 2 1) then Some kind.EmergencyChangeoverOrder
    else if nat_eq octet (heading 2 2) then Some kind.EmergencyChangeoverAcknowledgement
    else if nat_eq octet (heading 3 2) then Some kind.TransferControlled
    else if nat_eq octet (heading 4 1) then Some kind.TransferProhibited
    else if nat_eq octet (heading 4 3) then Some kind.TransferRestricted
    else if nat_eq octet (heading 4 5) then Some kind.TransferAllowed
    else if nat_eq octet (heading 5 1) then Some kind.RouteSetTestProhibited
    else if nat_eq octet (heading 5 2) then Some kind.RouteSetTestRestricted
    else if nat_eq octet (heading 7 1) then Some kind.TrafficRestartAllowed
    else if nat_eq octet (heading 10 1) then Some kind.UserPartUnavailable
    else None

-- the kind of a link test
abbrev pub test_of_heading : ℕ → Option ManagementKind
test_of_heading octet =
    if nat_eq octet (heading 1 1) then Some kind.LinkTest
    else if nat_eq octet (heading 1 2) then Some kind.LinkTestAcknowledgement
    else None

-- of management (service indicator 0) and of tests (1)
abbrev pub kind_by : (service_indicator : ℕ) → Option ℕ → Option ManagementKind
kind_by service None = None
kind_by service (Some octet) =
    if nat_eq service 0 then kind_of_heading octet else if nat_eq service 1 then test_of_heading octet else None

-- the kind of a message: its heading is behind its label
abbrev pub management_kind : Message → Option ManagementKind
management_kind m = kind_by (service_indicator m) (slice_get m.sif 4)

-- what the standards call it in short
abbrev pub kind_name : ManagementKind → List ℕ
kind_name kind.ChangeoverOrder = codes "COO"
kind_name kind.ChangeoverAcknowledgement = codes "COA"
kind_name kind.ExtendedChangeoverOrder = codes "XCO"
kind_name kind.ExtendedChangeoverAcknowledgement = codes "XCA"
kind_name kind.ChangebackDeclaration = codes "CBD"
kind_name kind.ChangebackAcknowledgement = codes "CBA"
kind_name kind.EmergencyChangeoverOrder = codes "ECO"
kind_name kind.EmergencyChangeoverAcknowledgement = codes "ECA"
kind_name kind.TransferControlled = codes "TFC"
kind_name kind.TransferProhibited = codes "TFP"
kind_name kind.TransferRestricted = codes "TFR"
kind_name kind.TransferAllowed = codes "TFA"
kind_name kind.RouteSetTestProhibited = codes "RST"
kind_name kind.RouteSetTestRestricted = codes "RSR"
kind_name kind.TrafficRestartAllowed = codes "TRA"
kind_name kind.UserPartUnavailable = codes "UPU"
kind_name kind.LinkTest = codes "SLTM"
kind_name kind.LinkTestAcknowledgement = codes "SLTA"

-- the kinds by number
abbrev pub kind_number : ManagementKind → ℕ
kind_number kind.ChangeoverOrder = 0
kind_number kind.ChangeoverAcknowledgement = 1
kind_number kind.ExtendedChangeoverOrder = 2
kind_number kind.ExtendedChangeoverAcknowledgement = 3
kind_number kind.ChangebackDeclaration = 4
kind_number kind.ChangebackAcknowledgement = 5
kind_number kind.EmergencyChangeoverOrder = 6
kind_number kind.EmergencyChangeoverAcknowledgement = 7
kind_number kind.TransferControlled = 8
kind_number kind.TransferProhibited = 9
kind_number kind.TransferRestricted = 10
kind_number kind.TransferAllowed = 11
kind_number kind.RouteSetTestProhibited = 12
kind_number kind.RouteSetTestRestricted = 13
kind_number kind.TrafficRestartAllowed = 14
kind_number kind.UserPartUnavailable = 15
kind_number kind.LinkTest = 16
kind_number kind.LinkTestAcknowledgement = 17
