-- What goes on, and what is returned, as it reads where it arrives: laws (Q.714 §2.3, §2.4, §4.2, §5.3.4).
use Rattle.std.specs.Prelude.{◌≡◌, ◌≢◌, ℕ, ◌+◌, ◌-◌, ◌/◌, ◌<◌, ◌≤◌, ◌^◌, ◌⊎◌, true, false, All, List, [], ◌∷◌, ◌++◌, length, drop, Option, Some, None, IfSome, Ok, unwrap_or}
use Rattle.signalling_types.specs.declared.cause.Cause.{Cause}
use Rattle.settings.specs.Configuration.{ChangeEntry, TitleEntry, unchanged}
use Rattle.settings.specs.declared.title_row.TitleRoute.TheVariants as route
use Rattle.mtp3_codec.specs.declared.label.Label.{Label}
use Rattle.mtp3_codec.specs.Headings.{label_at}
use Rattle.sccp_codec.specs.declared.address.Routing.TheVariants.{Title, Ssn}
use Rattle.sccp_codec.specs.declared.management.ManagementKind.TheVariants.{SubsystemAllowed, SubsystemStatusTest}
use Rattle.sccp_codec.specs.Messages.{AddressValue, AreOctets, PartsValue, UdtValue, kind_of, second_of, read_unitdata}
use Rattle.sccp_codec.specs.Extended.{ParameterValue, type_of, after_type}
use Rattle.sccp_codec.specs.Management.{ManagementValue, read_management}
use Rattle.sccp_codec.specs.Titles.{TitleValue, read_title, digits_in, title_octets}
use Rattle.sccp_relay.specs.Sccp.{SccpValue, Plain, Extended, sccp_parts, is_extended, read_sccp}
use Rattle.sccp_relay.specs.Points.{OwnValue, is_open, is_backup_open}
use Rattle.sccp_relay.specs.Relay.{Onward, relay, row_of, ssn_by, is_equipped, management_address}
use Rattle.sccp_relay.specs.Returning.{return_cause, returned_parameters, returned}
use Rattle.sccp_relay.specs.Statuses.{TitlesValue, is_prohibited}
use Rattle.sccp_relay.specs.Ways.{IsRow}
use Rattle.sccp_relay.specs.declared.subsystem.ProhibitedSubsystem.{ProhibitedSubsystem}

-- ---- the fields of a message

abbrev pub type_octet : SccpValue → ℕ
type_octet (Plain unitdata) = kind_of unitdata
type_octet (Extended extended) = type_of extended.kind

-- the class or the return cause
abbrev pub second_octet : SccpValue → ℕ
second_octet (Plain unitdata) = second_of unitdata
second_octet (Extended extended) = after_type extended.kind

abbrev pub hops_of : SccpValue → Option ℕ
hops_of (Plain unitdata) = None
hops_of (Extended extended) = Some extended.hop_counter

abbrev pub optional_of : SccpValue → List ParameterValue
optional_of (Plain unitdata) = []
optional_of (Extended extended) = extended.optional

-- ---- addresses and labels

-- the title, what it is made of and the bit for national use are the same
pub record SameTitle (a b : AddressValue) : Type 0 where
  pub national : b.national ≡ a.national
  pub title_indicator : b.title_indicator ≡ a.title_indicator
  pub title : b.title ≡ a.title

-- A title that a row changes reads as one of the same translation type, with the plan and the nature of the change
-- where it has them, and with the digits that the change puts on before those that it leaves. There is one digit at
-- least, the encoding scheme says whether they are odd or even in number, and filler and spare bits are 0.
pub record IsChanged (change : ChangeEntry) (a b : AddressValue) : Type 0 where
  pub came : TitleValue
  pub reads : read_title a.title_indicator a.title ≡ Ok came
  pub goes : TitleValue
  pub reads_back : read_title b.title_indicator b.title ≡ Ok goes
  pub translation_type : goes.key.translation ≡ came.key.translation
  pub plan : goes.key.plan ≡ unwrap_or change.plan came.key.plan
  pub nature : goes.key.nature ≡ unwrap_or change.nature came.key.nature
  pub digits : digits_in goes.scheme goes.digit_octets
      ≡ change.added ++ drop change.removed (digits_in came.scheme came.digit_octets)
  pub some : 1 ≤ length (digits_in goes.scheme goes.digit_octets)
  pub octets : b.title ≡ title_octets goes.key (digits_in goes.scheme goes.digit_octets)

-- the called address that a row leads on: routed as the row says, for the subsystem of the row rather than its own; its
-- title is the same, or as the row changes it
pub record IsLed (row : TitleEntry) (a b : AddressValue) : Type 0 where
  pub kept : row.change ≡ unchanged → SameTitle a b
  pub changed : row.change ≢ unchanged → IsChanged row.change a b
  pub national : b.national ≡ a.national
  pub title_indicator : b.title_indicator ≡ a.title_indicator
  pub point : b.point ≡ None
  pub by_number : (ssn : ℕ) → row.route ≡ route.Ssn ssn → (b.routing ≡ Ssn) × (b.ssn ≡ Some ssn)
  pub by_title : (ssn : ℕ) → row.route ≡ route.Title (Some ssn) → (b.routing ≡ Title) × (b.ssn ≡ Some ssn)
  pub by_title_alone : row.route ≡ route.Title None → (b.routing ≡ Title) × (b.ssn ≡ a.ssn)

-- the point that a row leads a message of a link selection to, which came from this sender, if from any: its own; but
-- its backup, if it has one, while that can be led to, and the first can't
pub record IsLedTo (own : OwnValue) (prohibited : List ProhibitedSubsystem) (sender : Option ℕ) (sls : ℕ)
    (row : TitleEntry) (point : ℕ) : Type 0 where
  pub alone : row.backup ≡ None → point ≡ row.point
  pub first : is_open own prohibited sls row.route row.point ≡ true → point ≡ row.point
  pub backup : (backup : ℕ) → row.backup ≡ Some backup → is_open own prohibited sls row.route row.point ≡ false
      → is_backup_open own prohibited sender sls row.route backup ≡ true → point ≡ backup
  pub neither : (backup : ℕ) → row.backup ≡ Some backup
      → is_backup_open own prohibited sender sls row.route backup ≡ false → point ≡ row.point

-- the calling address further on: one that is routed by subsystem number, and named no point, names that of the sender
pub record IsSeenFrom (origin : ℕ) (a b : AddressValue) : Type 0 where
  pub kept : SameTitle a b
  pub routing : b.routing ≡ a.routing
  pub ssn : b.ssn ≡ a.ssn
  pub own : (point : ℕ) → a.point ≡ Some point → b.point ≡ Some point
  pub sender : a.routing ≡ Ssn → a.point ≡ None → b.point ≡ Some origin
  pub none : a.routing ≡ Title → a.point ≡ None → b.point ≡ None

-- the label of a message to another point, from this one, by the same link selection
pub record IsSent (own : OwnValue) (sif field : List ℕ) : Type 0 where
  pub elsewhere : (label_at field).dpc ≢ own.point
  pub origin : (label_at field).opc ≡ own.point
  pub selection : (label_at field).sls ≡ (label_at sif).sls

-- ---- what goes on

-- the hop counter, if there is one, was 2 to 15, and is one lower
abbrev pub IsLowered : Option ℕ → Option ℕ → Type 0
IsLowered None after = after ≡ None
IsLowered (Some hops) after = (2 ≤ hops) × (hops ≤ 15) × (after ≡ Some (hops - 1))

-- a message goes on to where the row that its title finds leads it: of its type, with its class or return cause, its
-- data and its optional parameters
pub record GoesOn (own : OwnValue) (titles : TitlesValue) (sif field : List ℕ) : Type 0 where
  pub came : SccpValue
  pub reads : read_sccp own.extended (drop 4 sif) ≡ Ok came
  pub row : TitleEntry
  pub finds : row_of titles.rows (sccp_parts came).called ≡ Ok row
  pub label : IsSent own sif field
  pub to_row : IsLedTo own titles.prohibited (Some (label_at sif).opc) (label_at sif).sls row (label_at field).dpc
  pub goes : SccpValue
  pub reads_back : read_sccp own.extended (drop 4 field) ≡ Ok goes
  pub type : type_octet goes ≡ type_octet came
  pub second : second_octet goes ≡ second_octet came
  pub hops : IsLowered (hops_of came) (hops_of goes)
  pub called : IsLed row (sccp_parts came).called (sccp_parts goes).called
  pub calling : IsSeenFrom (label_at sif).opc (sccp_parts came).calling (sccp_parts goes).calling
  pub carried : (sccp_parts goes).data ≡ (sccp_parts came).data
  pub optional : optional_of goes ≡ optional_of came

-- a message to this address is for SCCP management here: by its subsystem number, or where the row of its title leads
pub record IsForManagement (own : OwnValue) (titles : TitlesValue) (label : Label) (called : AddressValue)
    : Type 0 where
  pub by_number : called.routing ≡ Ssn → called.ssn ≡ Some 1
  pub by_title : called.routing ≡ Title →
      (row : TitleEntry) × (row_of titles.rows called ≡ Ok row)
      × IsLedTo own titles.prohibited (Some label.opc) label.sls row own.point
      × (ssn_by row.route called.ssn ≡ Some 1)

-- an SSA goes back in the place of an SST about a subsystem that is here
pub record IsTestAnswer (own : OwnValue) (titles : TitlesValue) (sif field : List ℕ) : Type 0 where
  pub answers : own.answers_tests ≡ true
  pub class_octet : ℕ
  pub came : PartsValue
  pub reads : read_unitdata (drop 4 sif) ≡ Ok (UdtValue class_octet came)
  pub for_management : IsForManagement own titles (label_at sif) came.called
  pub test : ManagementValue
  pub says : read_management came.data ≡ Ok test
  pub kind : test.kind ≡ SubsystemStatusTest
  pub point : test.point ≡ own.point
  pub here : is_equipped own (Some test.ssn) ≡ true
  pub label : IsSent own sif field
  pub to_sender : (label_at field).dpc ≡ (label_at sif).opc
  pub goes : PartsValue
  pub reads_back : read_unitdata (drop 4 field) ≡ Ok (UdtValue 0 goes)
  pub called : goes.called ≡ management_address
  pub calling : goes.calling ≡ management_address
  pub answer : read_management goes.data ≡ Ok (record test { kind = SubsystemAllowed; multiplicity = 0 })

-- ---- what is returned

-- The point that a message goes back to, and how its called address reads there. By subsystem number it is the point
-- that the address names, or if there is none the point that the message came from, and its subsystem isn't prohibited
-- there; by title, where its row leads.
pub record GoesBack (own : OwnValue) (titles : TitlesValue) (label : Label) (to : AddressValue) (point : ℕ)
    (called : AddressValue) : Type 0 where
  pub by_number : to.routing ≡ Ssn → (point ≡ unwrap_or to.point label.opc) × (called ≡ to)
  pub not_prohibited : (ssn : ℕ) → to.routing ≡ Ssn → to.ssn ≡ Some ssn →
      is_prohibited titles.prohibited (record { point = point; ssn = ssn }) ≡ false
  pub by_title : to.routing ≡ Title →
      (row : TitleEntry) × (row_of titles.rows to ≡ Ok row) × IsLedTo own titles.prohibited None label.sls row point
      × IsLed row to called

-- A message that asks for it is returned: a UDT by a UDTS, an XUDT by an XUDTS, with the return cause, the addresses
-- exchanged, and the data. The hop counter of an XUDTS is 15
pub record IsReturned (own : OwnValue) (titles : TitlesValue) (sif : List ℕ) (cause : Cause) (field : List ℕ)
    : Type 0 where
  pub came : SccpValue
  pub reads : read_sccp own.extended (drop 4 sif) ≡ Ok came
  pub kind : (type_octet came ≡ 9) ⊎ (type_octet came ≡ 17)
  pub asks : second_octet came / 16 ≡ 8
  pub label : IsSent own sif field
  pub number : ℕ
  pub caused : return_cause cause ≡ Some number
  pub goes : SccpValue
  pub reads_back : read_sccp own.extended (drop 4 field) ≡ Ok goes
  pub type : type_octet goes ≡ type_octet came + 1
  pub second : second_octet goes ≡ number
  pub hops : IfSome (hops_of goes) (λ hops. hops ≡ 15)
  pub calling : (sccp_parts goes).calling ≡ (sccp_parts came).called
  pub back : GoesBack own titles (label_at sif) (sccp_parts came).calling (label_at field).dpc (sccp_parts goes).called
  pub carried : (sccp_parts goes).data ≡ (sccp_parts came).data
  pub optional : optional_of goes ≡ returned_parameters (optional_of came)

-- ---- the laws

-- a node whose point has 14 bits, and rows in their ranges
pub record AreInRange (own : OwnValue) (titles : TitlesValue) : Type 0 where
  pub point : own.point < 2 ^ 14
  pub each : All IsRow titles.rows

abbrev pub what_goes_on_reads_back : Type 0
what_goes_on_reads_back =
    (own : OwnValue) (titles : TitlesValue) (sif field : List ℕ) → AreInRange own titles → AreOctets sif
    → relay own titles sif ≡ Onward field → GoesOn own titles sif field ⊎ IsTestAnswer own titles sif field

abbrev pub a_udts_returns_a_udt : Type 0
a_udts_returns_a_udt =
    (own : OwnValue) (titles : TitlesValue) (sif : List ℕ) (cause : Cause) (field : List ℕ) → AreInRange own titles
    → AreOctets sif → returned own titles sif cause ≡ Some field → IsReturned own titles sif cause field

-- a node that relays: its point, and its rows
pub record RelayingNode : Type 0 where
  pub own : OwnValue
  pub titles : TitlesValue

-- each of these nodes in turn relays what the one before sent on, from this field to that
abbrev pub GoesThrough : List RelayingNode → List ℕ → List ℕ → Type 0
GoesThrough [] sif field = sif ≡ field
GoesThrough (node ∷ nodes) sif field =
    (next : List ℕ) × (relay node.own node.titles sif ≡ Onward next) × GoesThrough nodes next field

-- an extended message goes through 14 nodes at most, whatever rows they have
abbrev pub loops_of_titles_end : Type 0
loops_of_titles_end =
    (nodes : List RelayingNode) (sif field : List ℕ) → is_extended (drop 4 sif) ≡ true → GoesThrough nodes sif field
    → length nodes ≤ 14
