-- The addresses of the parties: what they say, and the octets that say it (Q.713 §3.4).
use Rattle.std.specs.Prelude.{◌≡◌, ℕ, ◌+◌, ◌*◌, ◌/◌, ◌%◌, ◌^◌, ◌<◌, Bool, true, false, ◌==◌, if◌then◌else◌, List, [], ◌∷◌, ◌++◌, slice_index, Option, Some, None, is_some, IfSome, ◌≤◌, length, drop, ◌||◌, not, nat_lt, nat_le, take, Result, Ok, Err}
use Rattle.sccp_codec.specs.declared.address.Routing.{Routing}
use Rattle.sccp_codec.specs.declared.address.Routing.TheVariants.{Title, Ssn}
use Rattle.signalling_types.specs.declared.limits.TheConstants.Limits.{SIF_OCTETS}
use Rattle.sccp_codec.specs.declared.fault.SccpFault.{SccpFault}
use Rattle.sccp_codec.specs.declared.fault.SccpFault.TheVariants.{Short, Pointer, Kind}

-- what an address says
pub record AddressValue : Type 0 where
  -- the bit reserved for national use
  pub national : Bool
  -- by what it is routed
  pub routing : Routing
  -- its point code and its subsystem number, if it has them
  pub point : Option ℕ
  pub ssn : Option ℕ
  -- what its title is made of, and the octets of the title
  pub title_indicator : ℕ
  pub title : List ℕ

-- whether this bit of an octet is set, the lowest being bit 0
abbrev pub is_set : ℕ → ℕ → Bool
is_set octet bit = octet / 2 ^ bit % 2 == 1

-- ---- the octets of an address

-- a bit of an octet, as what it adds to the octet
abbrev pub bit : Bool → ℕ → ℕ
bit set number = if set then 2 ^ number else 0

abbrev pub is_by_ssn : Routing → Bool
is_by_ssn Title = false
is_by_ssn Ssn = true

-- the indicator octet: whether there is a point code, whether there is a subsystem number, four bits of title
-- indicator, what routing is by, national use (Q.713 §3.4.1)
abbrev pub indicator_octet : AddressValue → ℕ
indicator_octet a =
    bit (is_some a.point) 0 + bit (is_some a.ssn) 1 + a.title_indicator * 2 ^ 2
    + bit (is_by_ssn a.routing) 6 + bit a.national 7

-- a point code: 14 bits, low octet first; the two top bits are spare (Q.713 §3.4.2.1)
abbrev pub point_octets : ℕ → Option ℕ → List ℕ
point_octets spare None = []
point_octets spare (Some point) = point % 2 ^ 8 ∷ (point / 2 ^ 8 + spare * 2 ^ 6) ∷ []

-- a subsystem number (Q.713 §3.4.2.2)
abbrev pub ssn_octets : Option ℕ → List ℕ
ssn_octets None = []
ssn_octets (Some ssn) = ssn ∷ []

-- the address, with these spare bits
abbrev pub address_octets : ℕ → AddressValue → List ℕ
address_octets spare a = indicator_octet a ∷ point_octets spare a.point ++ ssn_octets a.ssn ++ a.title

-- each number of the list is that of an octet
abbrev pub AreOctets : List ℕ → Type 0
AreOctets octets = (i : ℕ) → slice_index octets i < 2 ^ 8

-- what an address can say: its title indicator has four bits, its point code 14, its subsystem number eight
pub record IsAddressValue (a : AddressValue) : Type 0 where
  pub title_indicator : a.title_indicator < 2 ^ 4
  pub point : IfSome a.point (λ point. point < 2 ^ 14)
  pub ssn : IfSome a.ssn (λ ssn. ssn < 2 ^ 8)

-- the octets are an address that says this; the spare bits may be any
pub record IsAddress (octets : List ℕ) (a : AddressValue) : Type 0 where
  pub spare : ℕ
  pub spare_fits : spare < 2 ^ 2
  pub says : octets ≡ address_octets spare a
  pub value : IsAddressValue a

-- ---- Unitdata messages: what they say, and the octets that say it (Q.713 §2, §4.10, §4.11).

-- the addresses and the data of a message
pub record PartsValue : Type 0 where
  pub called : AddressValue
  pub calling : AddressValue
  pub «data» : List ℕ

-- what a message says
pub data UnitdataValue : Type 0 where
  -- a UDT: the octet of its protocol class, and its parts
  UdtValue : (class_octet : ℕ) (parts : PartsValue) → UnitdataValue
  -- a UDTS: its return cause, and its parts
  UdtsValue : (return_cause : ℕ) (parts : PartsValue) → UnitdataValue

-- the message type (Q.713 §2.1)
abbrev pub kind_of : UnitdataValue → ℕ
kind_of (UdtValue class_octet parts) = 9
kind_of (UdtsValue return_cause parts) = 10

-- the octet after the message type
abbrev pub second_of : UnitdataValue → ℕ
second_of (UdtValue class_octet parts) = class_octet
second_of (UdtsValue return_cause parts) = return_cause

abbrev pub parts_of : UnitdataValue → PartsValue
parts_of (UdtValue class_octet parts) = parts
parts_of (UdtsValue return_cause parts) = parts

-- ---- what octets say

-- the offset of the length octet of the part that the pointer at this octet names (Q.713 §2.3)
abbrev pub length_place : List ℕ → ℕ → ℕ
length_place text pointer = pointer + slice_index text pointer

-- the pointer at this octet names this part: after the pointers, from the octet `start` on, comes its length, and then
-- the part itself
pub record IsPart (start : ℕ) (text : List ℕ) (pointer : ℕ) (part : List ℕ) : Type 0 where
  pub behind : start ≤ length_place text pointer
  pub rest : List ℕ
  pub there : drop (length_place text pointer) text ≡ length part ∷ part ++ rest

-- the pointer at this octet names an address that says this
pub record HasAddress (start : ℕ) (text : List ℕ) (pointer : ℕ) (a : AddressValue) : Type 0 where
  pub octets : List ℕ
  pub part : IsPart start text pointer octets
  pub address : IsAddress octets a

-- the octets are a message that says this; its parts may lie anywhere after the pointers
pub record IsUnitdata (text : List ℕ) (v : UnitdataValue) : Type 0 where
  pub long : 5 ≤ length text
  pub kind : slice_index text 0 ≡ kind_of v
  pub second : slice_index text 1 ≡ second_of v
  pub called : HasAddress 5 text 2 (parts_of v).called
  pub calling : HasAddress 5 text 3 (parts_of v).calling
  pub carried : IsPart 5 text 4 (parts_of v).data

-- ---- the octets that are written

-- a part after its length
abbrev pub counted : List ℕ → List ℕ
counted part = length part ∷ part

-- the parts in their order, without gaps, after the pointers that name them
abbrev pub laid_out : (called calling carried : List ℕ) → List ℕ
laid_out called calling carried =
    (3 ∷ (3 + length called) ∷ (3 + length called + length calling) ∷ [])
    ++ counted called ++ counted calling ++ counted carried

-- the parts that say this, each after its length, with every spare bit 0
abbrev pub counted_parts : PartsValue → List ℕ
counted_parts parts =
    counted (address_octets 0 parts.called) ++ counted (address_octets 0 parts.calling) ++ counted parts.data

-- the pointers and the parts, with every spare bit 0
abbrev pub pointed : PartsValue → List ℕ
pointed parts = laid_out (address_octets 0 parts.called) (address_octets 0 parts.calling) parts.data

-- the message
abbrev pub spelled : UnitdataValue → List ℕ
spelled v = (kind_of v ∷ second_of v ∷ []) ++ pointed (parts_of v)

-- each pointer to such parts, of which the first is this, and the length of each, is an octet
pub record HasOctets (first : ℕ) (parts : PartsValue) : Type 0 where
  pub pointers : first + length (address_octets 0 parts.called) + length (address_octets 0 parts.calling) < 2 ^ 8
  pub carried : length parts.data < 2 ^ 8

-- what can be written: the label of four octets, the two octets before the pointers, the pointers and the parts fit a
-- signalling information field
pub record IsWritable (parts : PartsValue) : Type 0 where
  pub octets : HasOctets 3 parts
  pub field : 4 + 2 + length (pointed parts) ≤ SIF_OCTETS

-- what parts can say
pub record IsPartsValue (parts : PartsValue) : Type 0 where
  pub called : IsAddressValue parts.called
  pub calling : IsAddressValue parts.calling

-- what a message can say
abbrev pub IsUnitdataValue : UnitdataValue → Type 0
IsUnitdataValue v = IsPartsValue (parts_of v)

-- ---- Reading unitdata, with the first fault that is found (Q.713 §1.5, §2.3).

-- what reading gives: the fault, or without one the value
abbrev pub unless : {V : Type 0} → Option SccpFault → V → Result V SccpFault
unless None value = Ok value
unless (Some fault) value = Err fault

-- the first fault of several, in their order
abbrev pub first_fault : List (Option SccpFault) → Option SccpFault
first_fault [] = None
first_fault (Some fault ∷ others) = Some fault
first_fault (None ∷ others) = first_fault others

-- ---- an address

-- where the subsystem number and the title are, by the indicator octet
abbrev pub ssn_place : ℕ → ℕ
ssn_place indicator = if is_set indicator 0 then 3 else 1

abbrev pub title_place : ℕ → ℕ
title_place indicator = if is_set indicator 1 then ssn_place indicator + 1 else ssn_place indicator

-- an address has an indicator octet, and all that the octet announces
abbrev pub address_fault : List ℕ → Option SccpFault
address_fault [] = Some Short
address_fault (indicator ∷ rest) =
    if nat_lt (length (indicator ∷ rest)) (title_place indicator) then Some Short else None

-- the point code: the low 14 bits of the two octets, low octet first
abbrev pub point_at : List ℕ → ℕ
point_at octets = (slice_index octets 1 + slice_index octets 2 * 2 ^ 8) % 2 ^ 14

abbrev pub title_indicator_of : ℕ → ℕ
title_indicator_of indicator = indicator / 4 % 16

-- what an address with this indicator octet says
abbrev pub address_with : ℕ → List ℕ → AddressValue
address_with indicator octets = record {
  national = is_set indicator 7;
  routing = (if is_set indicator 6 then Ssn else Title);
  point = (if is_set indicator 0 then Some (point_at octets) else None);
  ssn = (if is_set indicator 1 then Some (slice_index octets (ssn_place indicator)) else None);
  title_indicator = title_indicator_of indicator;
  title = drop (title_place indicator) octets;
}

abbrev pub address_in : List ℕ → AddressValue
address_in octets = address_with (slice_index octets 0) octets

abbrev pub read_address : List ℕ → Result AddressValue SccpFault
read_address octets = unless (address_fault octets) (address_in octets)

-- ---- a message

-- its first octet is one of these two message types, and it has the octets before its parts
abbrev pub header_fault : (message service start : ℕ) → List ℕ → Option SccpFault
header_fault message service start text =
    if length text == 0 then Some Short
    else if not (slice_index text 0 == message || slice_index text 0 == service) then Some Kind
    else if nat_lt (length text) start then Some Short
    else None

-- the length of the part that the pointer at this octet names
abbrev pub part_length : List ℕ → ℕ → ℕ
part_length text pointer = slice_index text (length_place text pointer)

-- the length octet is after the pointers and before the end, and the part before the end too
abbrev pub pointer_fault : (start : ℕ) → List ℕ → ℕ → Option SccpFault
pointer_fault start text pointer =
    if nat_lt (length_place text pointer) start then Some Pointer
    else if nat_le (length text) (length_place text pointer) then Some Pointer
    else if nat_lt (length text) (length_place text pointer + 1 + part_length text pointer) then Some Pointer
    else None

-- the part: a slice of the text
abbrev pub part_at : List ℕ → ℕ → List ℕ
part_at text pointer = take (part_length text pointer) (drop (length_place text pointer + 1) text)

-- each of the three pointers in turn, from this octet on, then each address in turn
abbrev pub parts_fault : (pointers start : ℕ) → List ℕ → Option SccpFault
parts_fault pointers start text =
    first_fault (pointer_fault start text pointers ∷ pointer_fault start text (pointers + 1)
    ∷ pointer_fault start text (pointers + 2) ∷ address_fault (part_at text pointers)
    ∷ address_fault (part_at text (pointers + 1)) ∷ [])

abbrev pub parts_in : (pointers : ℕ) → List ℕ → PartsValue
parts_in pointers text = record {
  called = address_in (part_at text pointers);
  calling = address_in (part_at text (pointers + 1));
  «data» = part_at text (pointers + 2);
}

-- the first fault of a text
abbrev pub fault_of : List ℕ → Option SccpFault
fault_of text = first_fault (header_fault 9 10 5 text ∷ parts_fault 2 5 text ∷ [])

-- what a text without fault says
abbrev pub value_in : List ℕ → UnitdataValue
value_in text =
    if slice_index text 0 == 9
    then UdtValue (slice_index text 1) (parts_in 2 text)
    else UdtsValue (slice_index text 1) (parts_in 2 text)

-- what reading a text gives: the first fault, or what it says
abbrev pub read_unitdata : List ℕ → Result UnitdataValue SccpFault
read_unitdata text = unless (fault_of text) (value_in text)
