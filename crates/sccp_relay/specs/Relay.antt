-- SCRC, SCCP routing control: what becomes of an SCCP message for this point (Q.714 §2.3). By its called address it is
-- for a subsystem here, or goes on, written again (§2.4).
use Rattle.std.specs.Prelude.{ℕ, Bool, true, false, not, ◌&&◌, ◌||◌, if◌then◌else◌, nat_eq, List, [], ◌++◌, take, drop, Option, Some, None, is_none, Result, Ok, Err}
use Rattle.std.specs.List.{list_any}
use Rattle.settings.specs.Configuration.{TitleEntry}
use Rattle.signalling_types.specs.declared.cause.Cause.{Cause}
use Rattle.signalling_types.specs.declared.cause.Cause.TheVariants.{NotInProfile, BadSccp, Unequipped, HopCounter, TooLong}
use Rattle.signalling_types.specs.declared.limits.TheConstants.Limits.{TITLE_DIGITS}
use Rattle.settings.specs.declared.title_row.TitleRoute.{TitleRoute}
use Rattle.settings.specs.declared.title_row.TitleRoute.TheVariants as route
use Rattle.mtp3_codec.specs.declared.label.Label.{Label}
use Rattle.mtp3_codec.specs.Headings.{label_at, label_octets}
use Rattle.sccp_codec.specs.declared.fault.SccpFault.{SccpFault}
use Rattle.sccp_codec.specs.declared.fault.SccpFault.TheVariants.{Short, Pointer, Kind}
use Rattle.sccp_codec.specs.declared.address.Routing.{Routing}
use Rattle.sccp_codec.specs.declared.address.Routing.TheVariants as routing
use Rattle.sccp_codec.specs.declared.address.Routing.TheVariants.{Title, Ssn}
use Rattle.sccp_codec.specs.declared.management.ManagementKind.{ManagementKind}
use Rattle.sccp_codec.specs.declared.management.ManagementKind.TheVariants.{SubsystemAllowed, SubsystemProhibited, SubsystemStatusTest}
use Rattle.sccp_codec.specs.Messages.{AddressValue, is_by_ssn, PartsValue, UdtValue, UdtsValue}
use Rattle.sccp_codec.specs.Management.{ManagementValue, management_octets, read_management}
use Rattle.sccp_codec.specs.Titles.{TitleValue, read_title, digits_in}
use Rattle.sccp_relay.specs.Changing.{title_after}
use Rattle.sccp_relay.specs.Points.{OwnValue, point_by, unless_barred}
use Rattle.sccp_relay.specs.Statuses.{TitlesValue}
use Rattle.sccp_relay.specs.declared.subsystem.ProhibitedSubsystem.{ProhibitedSubsystem}
use Rattle.sccp_relay.specs.declared.subsystem.SubsystemNews.{SubsystemNews}
use Rattle.sccp_relay.specs.Translation.{translation}
use Rattle.sccp_relay.specs.Sccp.{SccpValue, Plain, Extended, sccp_parts, with_new_parts, read_sccp, is_connectionless, has_valid_hops, lowered, is_spent, is_sccp_writable, sccp_octets}

-- what becomes of a message: a subsystem here gets it, one with this signalling information field goes on in its place,
-- it is heard what it says of a subsystem at another point, or it is refused
pub data RelayedValue : Type 0 where
  Delivered : RelayedValue
  Onward : (sif : List ℕ) → RelayedValue
  Heard : (news : SubsystemNews) → RelayedValue
  Refused : (cause : Cause) → RelayedValue

-- ---- for another point

-- the row that the title of an address is translated by, from the first 32 of its digits
abbrev pub row_of_title : List TitleEntry → Result TitleValue Cause → Result TitleEntry Cause
row_of_title rows (Err cause) = Err cause
row_of_title rows (Ok title) =
    translation rows title.key (take TITLE_DIGITS (digits_in title.scheme title.digit_octets))

abbrev pub row_of : List TitleEntry → AddressValue → Result TitleEntry Cause
row_of rows address = row_of_title rows (read_title address.title_indicator address.title)

-- what the address is routed by at the point that a row leads to, and the subsystem number there: that of the row if it
-- has one, else that of the address if it has one
abbrev pub routing_by : TitleRoute → Routing
routing_by (route.Title ssn) = routing.Title
routing_by (route.Ssn ssn) = routing.Ssn

abbrev pub number_or : Option ℕ → Option ℕ → Option ℕ
number_or None other = other
number_or (Some number) other = Some number

abbrev pub ssn_by : TitleRoute → Option ℕ → Option ℕ
ssn_by (route.Title number) ssn = number_or number ssn
ssn_by (route.Ssn number) ssn = Some number

-- the called address, as a row leads it on with this title: it no longer names a point
abbrev pub led : TitleEntry → AddressValue → (title : List ℕ) → AddressValue
led row address title = record address {
  routing = routing_by row.route;
  point = None;
  ssn = ssn_by row.route address.ssn;
  title = title;
}

abbrev pub led_with : TitleEntry → AddressValue → Result (List ℕ) Cause → Result AddressValue Cause
led_with row address (Err cause) = Err cause
led_with row address (Ok title) = Ok (led row address title)

-- the same, with the title that the row gives it
abbrev pub translated : TitleEntry → AddressValue → Result AddressValue Cause
translated row address = led_with row address (title_after row.change address)

-- the calling address, as a further point must see it: if it is routed by subsystem number and names no point, it gets
-- that of the sender (Q.714 §2.7)
abbrev pub from_point : ℕ → AddressValue → AddressValue
from_point sender address =
    if is_by_ssn address.routing && is_none address.point then record address { point = Some sender } else address

-- the label of a message for another point: from this one, by the same link selection
abbrev pub label_to : (point own : ℕ) → Label → Label
label_to point own label = record { dpc = point; opc = own; sls = label.sls }

-- the field of a message for another point, if it can be written
abbrev pub written : (point own : ℕ) → Label → SccpValue → Option (List ℕ)
written point own label message =
    if is_sccp_writable message then Some (label_octets (label_to point own label) ++ sccp_octets message) else None

abbrev pub onward : Option (List ℕ) → RelayedValue
onward (Some sif) = Onward sif
onward None = Refused TooLong

-- the parts, with the called address as a row leads it on
abbrev pub led_on : (called : AddressValue) → (sender : ℕ) → PartsValue → PartsValue
led_on called sender parts = record parts { called = called; calling = from_point sender parts.calling }

-- ---- for this point

abbrev pub is_management : Option ℕ → Bool
is_management None = false
is_management (Some ssn) = nat_eq ssn 1

-- whether a subsystem of this number is here; without a number none is. Where tests are answered SCCP management,
-- subsystem 1, is here (Q.714 §5.3.4)
abbrev pub is_equipped : OwnValue → Option ℕ → Bool
is_equipped own None = false
is_equipped own (Some ssn) =
    own.answers_tests && nat_eq ssn 1 || list_any (λ subsystem. nat_eq subsystem ssn) own.subsystems

-- a message for a subsystem of this point
abbrev pub to_subsystem : OwnValue → Option ℕ → RelayedValue
to_subsystem own ssn = if is_equipped own ssn then Delivered else Refused Unequipped

-- ---- tests of the subsystems here: what SCCP management, subsystem 1, is asked (Q.714 §5.3.4)

abbrev pub is_test : ManagementKind → Bool
is_test SubsystemAllowed = false
is_test SubsystemProhibited = false
is_test SubsystemStatusTest = true

-- an SST is answered if it is about this point and a subsystem that is here, and another point sent it
abbrev pub is_answered : OwnValue → (sender : ℕ) → ManagementValue → Bool
is_answered own sender test =
    is_test test.kind && nat_eq test.point own.point && is_equipped own (Some test.ssn) && not (nat_eq sender own.point)

-- the address of SCCP management (Q.713 §3.4.2.2)
abbrev pub management_address : AddressValue
management_address = record {
  national = false;
  routing = routing.Ssn;
  point = None;
  ssn = Some 1;
  title_indicator = 0;
  title = [];
}

-- what SCCP management here says to that of another point, in a UDT of class 0; the spare bits are 0
abbrev pub said : ManagementValue → SccpValue
said about = Plain (UdtValue 0 (record {
  called = management_address;
  calling = management_address;
  «data» = management_octets 0 about;
}))

-- the answer: an SSA about the same subsystem; its multiplicity indicator, and the spare bits there, are 0
abbrev pub allowed : ManagementValue → SccpValue
allowed test = said (record test { kind = SubsystemAllowed; multiplicity = 0 })

-- the field of the answer to what was read, if it is answered
abbrev pub answer_to : OwnValue → Label → Result ManagementValue SccpFault → Option (List ℕ)
answer_to own label (Err fault) = None
answer_to own label (Ok test) =
    if is_answered own label.opc test then written label.opc own.point label (allowed test) else None

-- the same, of a message for this subsystem: only the data of a UDT are looked at
abbrev pub answer : OwnValue → Label → SccpValue → Option ℕ → Option (List ℕ)
answer own label (Plain (UdtValue class_octet parts)) ssn =
    if own.answers_tests && is_management ssn then answer_to own label (read_management parts.data) else None
answer own label (Plain (UdtsValue return_cause parts)) ssn = None
answer own label (Extended extended) ssn = None

-- the answer goes in the place of what it answers
abbrev pub answered_or : Option (List ℕ) → RelayedValue → RelayedValue
answered_or (Some sif) other = Onward sif
answered_or None other = other

-- a message for SCCP management or another subsystem of this point
abbrev pub for_subsystem : OwnValue → Label → SccpValue → Option ℕ → RelayedValue
for_subsystem own label message ssn = answered_or (answer own label message ssn) (to_subsystem own ssn)

-- ---- what other points say of their subsystems (Q.714 §5.3.2, §5.3.3)

abbrev pub is_status : ManagementKind → Bool
is_status SubsystemAllowed = true
is_status SubsystemProhibited = true
is_status SubsystemStatusTest = false

abbrev pub prohibits : ManagementKind → Bool
prohibits SubsystemAllowed = false
prohibits SubsystemProhibited = true
prohibits SubsystemStatusTest = false

-- what an SSP or an SSA says, and who says it
abbrev pub news_from : (sender : ℕ) → ManagementValue → SubsystemNews
news_from sender about = record {
  sender = sender;
  subsystem = record { point = about.point; ssn = about.ssn };
  is_prohibited = prohibits about.kind;
}

-- it is heard if another point says it
abbrev pub news_in : OwnValue → (sender : ℕ) → Result ManagementValue SccpFault → Option SubsystemNews
news_in own sender (Err fault) = None
news_in own sender (Ok about) =
    if is_status about.kind && not (nat_eq sender own.point) then Some (news_from sender about) else None

-- the same, of a message for this subsystem: only the data of a UDT for SCCP management are looked at
abbrev pub news : OwnValue → (sender : ℕ) → SccpValue → Option ℕ → Option SubsystemNews
news own sender (Plain (UdtValue class_octet parts)) ssn =
    if own.hears_statuses && is_management ssn then news_in own sender (read_management parts.data) else None
news own sender (Plain (UdtsValue return_cause parts)) ssn = None
news own sender (Extended extended) ssn = None

abbrev pub heard_or : Option SubsystemNews → RelayedValue → RelayedValue
heard_or (Some news) other = Heard news
heard_or None other = other

-- ---- a message

-- a message goes on to the point of a row, with this called address
abbrev pub lead_on : OwnValue → Label → SccpValue → (point : ℕ) → Result AddressValue Cause → RelayedValue
lead_on own label message point (Err cause) = Refused cause
lead_on own label message point (Ok called) =
    onward (written point own.point label
    (with_new_parts (lowered message) (led_on called label.opc (sccp_parts message))))

-- a message whose called address is by title, by the row of that title
abbrev pub relay_by_row : OwnValue → List ProhibitedSubsystem → Label → SccpValue → Result TitleEntry Cause
    → RelayedValue
relay_by_row own prohibited label message (Err cause) = Refused cause
relay_by_row own prohibited label message (Ok row) =
    if nat_eq (point_by own prohibited (Some label.opc) label.sls row) own.point
    then for_subsystem own label message (ssn_by row.route (sccp_parts message).called.ssn)
    else lead_on own label message (point_by own prohibited (Some label.opc) label.sls row)
    (translated row (sccp_parts message).called)

-- before it is translated its hop counter is lowered, and it is refused if this comes to 0 (Q.714 §2.3.1)
abbrev pub relay_by_title : OwnValue → TitlesValue → Label → SccpValue → RelayedValue
relay_by_title own titles label message =
    if is_spent (lowered message) then Refused HopCounter
    else relay_by_row own titles.prohibited label message
    (unless_barred own titles.prohibited (Some label.opc) label.sls (row_of titles.rows (sccp_parts message).called))

-- by subsystem number a message is for this point, whatever point the address names; by title a row leads it. What
-- other points say of their subsystems is addressed by subsystem number
abbrev pub relay_by_routing : Routing → OwnValue → TitlesValue → Label → SccpValue → RelayedValue
relay_by_routing routing.Ssn own titles label message =
    heard_or (news own label.opc message (sccp_parts message).called.ssn)
    (for_subsystem own label message (sccp_parts message).called.ssn)
relay_by_routing routing.Title own titles label message = relay_by_title own titles label message

-- why a message that can't be read is refused
abbrev pub sccp_cause : SccpFault → Cause
sccp_cause Short = BadSccp
sccp_cause Pointer = BadSccp
sccp_cause Kind = NotInProfile

abbrev pub relay_read : OwnValue → TitlesValue → Label → Result SccpValue SccpFault → RelayedValue
relay_read own titles label (Err fault) = Refused (sccp_cause fault)
relay_read own titles label (Ok message) =
    if not (is_connectionless message) then Refused NotInProfile
    else if not (has_valid_hops message) then Refused HopCounter
    else relay_by_routing (sccp_parts message).called.routing own titles label message

-- what becomes of a message with this signalling information field
unfoldable pub relay : OwnValue → TitlesValue → List ℕ → RelayedValue
relay own titles sif = relay_read own titles (label_at sif) (read_sccp own.extended (drop 4 sif))
