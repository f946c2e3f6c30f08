-- The fields after the heading of a management message (Q.704 §15, Q.2210 §10).
use Rattle.std.specs.Prelude.{ℕ, ◌+◌, ◌*◌, ◌/◌, ◌%◌, ◌^◌, List, [], ◌∷◌, Result, Ok, Err, ◌==◌, if◌then◌else◌, Option, Some, None, ◌<◌, length, nat_lt, nat_eq}
use Rattle.signalling_types.specs.Numbers.{number_of}
use Rattle.mtp3_codec.specs.declared.fault.MgmtFault.{MgmtFault}
use Rattle.mtp3_codec.specs.declared.fault.MgmtFault.TheVariants.{Short}
use Rattle.mtp3_codec.specs.declared.link_test.TestKind.{TestKind}
use Rattle.mtp3_codec.specs.declared.link_test.TestKind.TheVariants.{Test, Acknowledgement}
use Rattle.mtp3_codec.specs.declared.management.Management.{Management}
use Rattle.mtp3_codec.specs.declared.unavailability.UnavailabilityCause.{UnavailabilityCause}
use Rattle.mtp3_codec.specs.declared.unavailability.UnavailabilityCause.TheVariants.{Unknown, Unequipped, Inaccessible}
use Rattle.mtp3_codec.specs.declared.management.Management.TheVariants.{ExtendedChangeoverOrder, ExtendedChangeoverAcknowledgement, ChangebackDeclaration, ChangebackAcknowledgement, EmergencyChangeoverOrder, EmergencyChangeoverAcknowledgement, TransferProhibited, TransferRestricted, TransferAllowed, RouteSetTestProhibited, RouteSetTestRestricted, TrafficRestartAllowed, UserPartUnavailable}
use Rattle.signalling_types.specs.Message.{label_number, Message, dpc_of, network_indicator}
use Rattle.mtp3_codec.specs.declared.label.Label.{Label}
use Rattle.signalling_types.specs.declared.cause.Cause.{Cause}
use Rattle.signalling_types.specs.declared.cause.Cause.TheVariants.{NoLabel, WrongNetwork}
use Rattle.mtp3_codec.specs.declared.discrimination.Discrimination.{Discrimination}
use Rattle.mtp3_codec.specs.declared.discrimination.Discrimination.TheVariants.{Here, Transfer, Refused}

-- a 24-bit number before the fields, low octet first
abbrev pub number_in : List ℕ → Result ℕ MgmtFault
number_in [] = Err Short
number_in (low ∷ []) = Err Short
number_in (low ∷ middle ∷ []) = Err Short
number_in (low ∷ middle ∷ high ∷ rest) = Ok (number_of (high ∷ middle ∷ low ∷ []))

-- its octets
abbrev pub number_octets : ℕ → List ℕ
number_octets number = number % 2 ^ 8 ∷ number / 2 ^ 8 % 2 ^ 8 ∷ number / 2 ^ 16 % 2 ^ 8 ∷ []

-- a changeback code before the fields: one octet
abbrev pub changeback_code_in : List ℕ → Result ℕ MgmtFault
changeback_code_in [] = Err Short
changeback_code_in (code ∷ rest) = Ok code

-- a point code before the fields: the low 14 bits of two octets, low octet first
abbrev pub point_in : List ℕ → Result ℕ MgmtFault
point_in [] = Err Short
point_in (low ∷ []) = Err Short
point_in (low ∷ high ∷ rest) = Ok ((low + high * 2 ^ 8) % 2 ^ 14)

-- its octets; the two top bits of 14 are 0
abbrev pub point_octets : ℕ → List ℕ
point_octets point = point % 2 ^ 8 ∷ point / 2 ^ 8 ∷ []

-- why a user part is unavailable, by its code; the codes from 3 on are spare, and say no more than that it is
abbrev pub cause_code : UnavailabilityCause → ℕ
cause_code Unknown = 0
cause_code Unequipped = 1
cause_code Inaccessible = 2

abbrev pub cause_of_code : ℕ → UnavailabilityCause
cause_of_code code = if code == 1 then Unequipped else if code == 2 then Inaccessible else Unknown

-- a user part and why it is unavailable before the fields: the part's service indicator in the low half of an octet,
-- the cause in the high half
abbrev pub part_octet : ℕ → UnavailabilityCause → ℕ
part_octet user_part cause = user_part + cause_code cause * 16

-- ---- The octet after the label, which says what kind of message it is (Q.704 §15.3, Q.707 §5).

-- the group H0 in the low half, the message H1 in the high half
abbrev pub heading : (h0 h1 : ℕ) → ℕ
heading h0 h1 = h0 + h1 * 16

-- a link test, and its answer
abbrev pub kind_heading : TestKind → ℕ
kind_heading Test = heading 1 1
kind_heading Acknowledgement = heading 1 2

-- the kind of test message that a heading names
abbrev pub kind_of : ℕ → Option TestKind
kind_of octet =
    if octet == kind_heading Test then Some Test
    else if octet == kind_heading Acknowledgement then Some Acknowledgement
    else None

-- a management message
abbrev pub management_heading : Management → ℕ
management_heading (ExtendedChangeoverOrder slc number) = heading 1 3
management_heading (ExtendedChangeoverAcknowledgement slc number) = heading 1 4
management_heading (ChangebackDeclaration slc code) = heading 1 5
management_heading (ChangebackAcknowledgement slc code) = heading 1 6
management_heading (EmergencyChangeoverOrder slc) = heading 2 1
management_heading (EmergencyChangeoverAcknowledgement slc) = heading 2 2
management_heading (TransferProhibited point) = heading 4 1
management_heading (TransferRestricted point) = heading 4 3
management_heading (TransferAllowed point) = heading 4 5
management_heading (RouteSetTestProhibited point) = heading 5 1
management_heading (RouteSetTestRestricted point) = heading 5 2
management_heading TrafficRestartAllowed = heading 7 1
management_heading (UserPartUnavailable point user_part cause) = heading 10 1

-- ---- The routing label: where a message goes, where it comes from, and how it chooses its link (Q.704 §2.2).

-- the label of a signalling information field: its first four octets as one number, low octet first. The low 14 bits
-- are the destination, the next 14 the origin, the top four the link selection
abbrev pub label_at : List ℕ → Label
label_at sif = record {
  dpc = label_number sif % 2 ^ 14;
  opc = label_number sif / 2 ^ 14 % 2 ^ 14;
  sls = label_number sif / 2 ^ 28 % 2 ^ 4;
}

-- the same, if the field has four octets
abbrev pub label_in : List ℕ → Option Label
label_in sif = if nat_lt (length sif) 4 then None else Some (label_at sif)

-- a label as one number
abbrev pub number_of_label : Label → ℕ
number_of_label label = label.dpc + label.opc * 2 ^ 14 + label.sls * 2 ^ 28

-- its four octets, low octet first
abbrev pub octets_of : ℕ → List ℕ
octets_of number = number % 2 ^ 8 ∷ number / 2 ^ 8 % 2 ^ 8 ∷ number / 2 ^ 16 % 2 ^ 8 ∷ number / 2 ^ 24 % 2 ^ 8 ∷ []

abbrev pub label_octets : Label → List ℕ
label_octets label = octets_of (number_of_label label)

-- the ranges of its parts: two codes of 14 bits, and a selection of four
pub record IsLabel (label : Label) : Type 0 where
  pub dpc : label.dpc < 2 ^ 14
  pub opc : label.opc < 2 ^ 14
  pub sls : label.sls < 2 ^ 4

-- ---- Whether a message is for this point or another (Q.704 §2.4).

-- why a message is refused before its destination is looked at, if it is: it has no whole label, or another network
-- indicator
abbrev pub label_fault : Message → ℕ → Option Cause
label_fault m network =
    if nat_lt (length m.sif) 4
    then Some NoLabel
    else (if nat_eq (network_indicator m) network then None else Some WrongNetwork)

-- where a message without such a fault goes: the destination of its label decides
abbrev pub destination : Message → ℕ → Discrimination
destination m own = if nat_eq (dpc_of m) own then Here (label_at m.sif) else Transfer (label_at m.sif)

-- the fault first, then the destination
abbrev pub fault_or_destination : Option Cause → Discrimination → Discrimination
fault_or_destination (Some cause) where_to = Refused cause
fault_or_destination None where_to = where_to

abbrev pub discrimination : Message → ℕ → ℕ → Discrimination
discrimination m own network = fault_or_destination (label_fault m network) (destination m own)
