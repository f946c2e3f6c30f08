-- Management messages: messages of service indicator 0 (Q.704 §15, Q.2210 §10).
use Rattle.std.specs.Prelude.{ℕ, ⊤, ◌<◌, ◌^◌, ◌==◌, if◌then◌else◌, List, [], ◌∷◌, ◌++◌, drop, Result, Ok, Err, ◌*◌, ◌/◌, ◌%◌, nat_lt, length, take, Option, Some, None}
use Rattle.mtp3_codec.specs.Headings.{label_at, label_octets, number_in, number_octets, changeback_code_in, point_in, point_octets, cause_of_code, part_octet, heading, management_heading, kind_of, kind_heading}
use Rattle.mtp3_codec.specs.declared.fault.MgmtFault.{MgmtFault}
use Rattle.mtp3_codec.specs.declared.fault.MgmtFault.TheVariants.{Short, NotInProfile}
use Rattle.mtp3_codec.specs.declared.management.Management.{Management}
use Rattle.mtp3_codec.specs.declared.management.Management.TheVariants.{ExtendedChangeoverOrder, ExtendedChangeoverAcknowledgement, ChangebackDeclaration, ChangebackAcknowledgement, EmergencyChangeoverOrder, EmergencyChangeoverAcknowledgement, TransferProhibited, TransferRestricted, TransferAllowed, RouteSetTestProhibited, RouteSetTestRestricted, TrafficRestartAllowed, UserPartUnavailable}
use Rattle.mtp3_codec.specs.declared.link_test.TestKind.{TestKind}
use Rattle.mtp3_codec.specs.declared.link_test.TestKind.TheVariants.{Acknowledgement}

-- a message of what is read of its fields
abbrev pub with_field : (ℕ → Management) → Result ℕ MgmtFault → Result Management MgmtFault
with_field message (Ok field) = Ok (message field)
with_field message (Err fault) = Err fault

-- the fields of a user part unavailable: the point, then the part and the cause
abbrev pub unavailable_in : List ℕ → Result Management MgmtFault
unavailable_in [] = Err Short
unavailable_in (low ∷ []) = Err Short
unavailable_in (low ∷ high ∷ []) = Err Short
unavailable_in (low ∷ high ∷ octet ∷ rest) =
    with_field (λ point. UserPartUnavailable point (octet % 16) (cause_of_code (octet / 16)))
    (point_in (low ∷ high ∷ []))

-- the message of a heading, of the link code in the label, and of the fields after the heading; what is after the
-- fields is ignored
abbrev pub message_of : (octet slc : ℕ) (fields : List ℕ) → Result Management MgmtFault
message_of octet slc fields =
    if octet == heading 1 3 then with_field (ExtendedChangeoverOrder slc) (number_in fields)
    else if octet == heading 1 4 then with_field (ExtendedChangeoverAcknowledgement slc) (number_in fields)
    else if octet == heading 1 5 then with_field (ChangebackDeclaration slc) (changeback_code_in fields)
    else if octet == heading 1 6 then with_field (ChangebackAcknowledgement slc) (changeback_code_in fields)
    else if octet == heading 2 1 then Ok (EmergencyChangeoverOrder slc)
    else if octet == heading 2 2 then Ok (EmergencyChangeoverAcknowledgement slc)
    else if octet == heading 4 1 then with_field TransferProhibited (point_in fields)
    else if octet == heading 4 3 then with_field TransferRestricted (point_in fields)
    else if octet == heading 4 5 then with_field TransferAllowed (point_in fields)
    else if octet == heading 5 1 then with_field RouteSetTestProhibited (point_in fields)
    else if octet == heading 5 2 then with_field RouteSetTestRestricted (point_in fields)
    else if octet == heading 7 1 then Ok TrafficRestartAllowed
    else if octet == heading 10 1 then unavailable_in fields
    else Err NotInProfile

-- after the label: the heading, and what belongs to it
abbrev pub message_in : ℕ → List ℕ → Result Management MgmtFault
message_in slc [] = Err Short
message_in slc (octet ∷ fields) = message_of octet slc fields

-- what a signalling information field says, or its first fault
abbrev pub read_management : List ℕ → Result Management MgmtFault
read_management sif = message_in (label_at sif).sls (drop 4 sif)

-- what is in the label's place of the selection: the link code of a message that has one, else 0
abbrev pub link_code_of : Management → ℕ
link_code_of (ExtendedChangeoverOrder slc number) = slc
link_code_of (ExtendedChangeoverAcknowledgement slc number) = slc
link_code_of (ChangebackDeclaration slc code) = slc
link_code_of (ChangebackAcknowledgement slc code) = slc
link_code_of (EmergencyChangeoverOrder slc) = slc
link_code_of (EmergencyChangeoverAcknowledgement slc) = slc
link_code_of (TransferProhibited point) = 0
link_code_of (TransferRestricted point) = 0
link_code_of (TransferAllowed point) = 0
link_code_of (RouteSetTestProhibited point) = 0
link_code_of (RouteSetTestRestricted point) = 0
link_code_of TrafficRestartAllowed = 0
link_code_of (UserPartUnavailable point user_part cause) = 0

-- the fields of a message: the number of the last message that its sender accepted, a changeback code, the point code
-- that it is about, a user part there and why it is unavailable, or nothing
abbrev pub field_octets : Management → List ℕ
field_octets (ExtendedChangeoverOrder slc number) = number_octets number
field_octets (ExtendedChangeoverAcknowledgement slc number) = number_octets number
field_octets (ChangebackDeclaration slc code) = code ∷ []
field_octets (ChangebackAcknowledgement slc code) = code ∷ []
field_octets (EmergencyChangeoverOrder slc) = []
field_octets (EmergencyChangeoverAcknowledgement slc) = []
field_octets (TransferProhibited point) = point_octets point
field_octets (TransferRestricted point) = point_octets point
field_octets (TransferAllowed point) = point_octets point
field_octets (RouteSetTestProhibited point) = point_octets point
field_octets (RouteSetTestRestricted point) = point_octets point
field_octets TrafficRestartAllowed = []
field_octets (UserPartUnavailable point user_part cause) = point_octets point ++ part_octet user_part cause ∷ []

-- the one text that is written of a message from one point to another
abbrev pub management_octets : (dpc opc : ℕ) → Management → List ℕ
management_octets dpc opc message =
    label_octets (record { dpc = dpc; opc = opc; sls = link_code_of message })
    ++ management_heading message ∷ field_octets message

-- the ranges of what a message names: a link code of four bits, a number of 24, a changeback code of eight, a point
-- code of 14, and a user part of four
abbrev pub IsManagement : Management → Type 0
IsManagement (ExtendedChangeoverOrder slc number) = (slc < 2 ^ 4) × (number < 2 ^ 24)
IsManagement (ExtendedChangeoverAcknowledgement slc number) = (slc < 2 ^ 4) × (number < 2 ^ 24)
IsManagement (ChangebackDeclaration slc code) = (slc < 2 ^ 4) × (code < 2 ^ 8)
IsManagement (ChangebackAcknowledgement slc code) = (slc < 2 ^ 4) × (code < 2 ^ 8)
IsManagement (EmergencyChangeoverOrder slc) = slc < 2 ^ 4
IsManagement (EmergencyChangeoverAcknowledgement slc) = slc < 2 ^ 4
IsManagement (TransferProhibited point) = point < 2 ^ 14
IsManagement (TransferRestricted point) = point < 2 ^ 14
IsManagement (TransferAllowed point) = point < 2 ^ 14
IsManagement (RouteSetTestProhibited point) = point < 2 ^ 14
IsManagement (RouteSetTestRestricted point) = point < 2 ^ 14
IsManagement TrafficRestartAllowed = ⊤
IsManagement (UserPartUnavailable point user_part cause) = (point < 2 ^ 14) × (user_part < 2 ^ 4)

-- ---- Link tests and their answers: messages of service indicator 1 (Q.707 §5).

-- what a link test says: the signalling link code, which is in the label's place of the selection, and a pattern
pub record LinkTestValue : Type 0 where
  pub kind : TestKind
  pub slc : ℕ
  pub pattern : List ℕ

-- after the heading: an octet with the pattern's length in its high half, the pattern, and any octets
abbrev pub pattern_in : TestKind → ℕ → List ℕ → Result LinkTestValue MgmtFault
pattern_in kind slc [] = Err Short
pattern_in kind slc (count ∷ rest) =
    if nat_lt (length rest) (count / 16)
    then Err Short
    else Ok (record { kind = kind; slc = slc; pattern = take (count / 16) rest })

-- the heading says what kind it is
abbrev pub test_of_kind : Option TestKind → ℕ → List ℕ → Result LinkTestValue MgmtFault
test_of_kind None slc rest = Err NotInProfile
test_of_kind (Some kind) slc rest = pattern_in kind slc rest

-- after the label: the heading, and what belongs to it
abbrev pub test_in : ℕ → List ℕ → Result LinkTestValue MgmtFault
test_in slc [] = Err Short
test_in slc (octet ∷ rest) = test_of_kind (kind_of octet) slc rest

-- what a signalling information field says, or its first fault
abbrev pub read_link_test : List ℕ → Result LinkTestValue MgmtFault
read_link_test sif = test_in (label_at sif).sls (drop 4 sif)

-- the one text that is written of a link test from one point to another
abbrev pub spelled : (dpc opc : ℕ) → LinkTestValue → List ℕ
spelled dpc opc test =
    label_octets (record { dpc = dpc; opc = opc; sls = test.slc })
    ++ kind_heading test.kind ∷ length test.pattern * 16 ∷ test.pattern

-- a test is answered with its own code and pattern
abbrev pub answer_to : LinkTestValue → LinkTestValue
answer_to test = record test { kind = Acknowledgement }
