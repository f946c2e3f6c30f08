-- The messages of SCCP without a connection: UDT and UDTS, and XUDT and XUDTS where these are relayed (Q.713 §4.10,
-- §4.11, §4.18, §4.19).
use Rattle.std.specs.Prelude.{ℕ, ◌+◌, ◌-◌, ◌/◌, ◌%◌, ◌^◌, Bool, true, false, ◌==◌, ◌&&◌, ◌||◌, nat_eq, nat_lt, nat_le, if◌then◌else◌, List, length, slice_index, Result, Ok, Err}
use Rattle.signalling_types.specs.declared.limits.TheConstants.Limits.{SIF_OCTETS}
use Rattle.sccp_codec.specs.declared.fault.SccpFault.{SccpFault}
use Rattle.sccp_codec.specs.declared.extended.ExtendedKind.{ExtendedKind}
use Rattle.sccp_codec.specs.declared.extended.ExtendedKind.TheVariants.{Xudt, Xudts}
use Rattle.sccp_codec.specs.Messages.{address_octets, PartsValue, UnitdataValue, UdtValue, UdtsValue, parts_of, pointed, spelled, read_unitdata}
use Rattle.sccp_codec.specs.Extended.{ExtendedValue, after_parts, optional_pointer, extended_octets, read_extended}

-- what a message says
pub data SccpValue : Type 0 where
  -- a UDT or a UDTS
  Plain : (unitdata : UnitdataValue) → SccpValue
  -- an XUDT or an XUDTS
  Extended : (extended : ExtendedValue) → SccpValue

-- its addresses and its data
abbrev pub sccp_parts : SccpValue → PartsValue
sccp_parts (Plain unitdata) = parts_of unitdata
sccp_parts (Extended extended) = extended.parts

-- the same message with other addresses and data
abbrev pub with_new_parts : SccpValue → PartsValue → SccpValue
with_new_parts (Plain (UdtValue class_octet parts)) others = Plain (UdtValue class_octet others)
with_new_parts (Plain (UdtsValue return_cause parts)) others = Plain (UdtsValue return_cause others)
with_new_parts (Extended extended) others = Extended (record extended { parts = others })

-- ---- reading

abbrev pub as_plain : Result UnitdataValue SccpFault → Result SccpValue SccpFault
as_plain (Ok unitdata) = Ok (Plain unitdata)
as_plain (Err fault) = Err fault

abbrev pub as_extended : Result ExtendedValue SccpFault → Result SccpValue SccpFault
as_extended (Ok extended) = Ok (Extended extended)
as_extended (Err fault) = Err fault

-- the first octet is the message type of an XUDT or an XUDTS (Q.713 §2.1)
abbrev pub is_extended : List ℕ → Bool
is_extended text = slice_index text 0 == 17 || slice_index text 0 == 18

-- what reading a text gives, where extended messages are relayed or not
abbrev pub read_sccp : (extended : Bool) → List ℕ → Result SccpValue SccpFault
read_sccp extended text =
    if extended && is_extended text then as_extended (read_extended text) else as_plain (read_unitdata text)

-- ---- the protocol class and the return option (Q.713 §3.6)

-- a class above 1 needs a connection
abbrev pub is_class_connectionless : (class_octet : ℕ) → Bool
is_class_connectionless class_octet = nat_le (class_octet % 16) 1

abbrev pub is_kind_connectionless : ExtendedKind → Bool
is_kind_connectionless (Xudt class_octet) = is_class_connectionless class_octet
is_kind_connectionless (Xudts return_cause) = true

-- a UDT or an XUDT of a class above 1 asks for more than a connectionless service
abbrev pub is_connectionless : SccpValue → Bool
is_connectionless (Plain (UdtValue class_octet parts)) = is_class_connectionless class_octet
is_connectionless (Plain (UdtsValue return_cause parts)) = true
is_connectionless (Extended extended) = is_kind_connectionless extended.kind

abbrev pub is_class_returned : (class_octet : ℕ) → Bool
is_class_returned class_octet = nat_eq (class_octet / 16) 8

abbrev pub is_kind_returned : ExtendedKind → Bool
is_kind_returned (Xudt class_octet) = is_class_returned class_octet
is_kind_returned (Xudts return_cause) = false

-- a UDT or an XUDT may ask to be returned on error; a UDTS and an XUDTS never are
abbrev pub asks_for_return : SccpValue → Bool
asks_for_return (Plain (UdtValue class_octet parts)) = is_class_returned class_octet
asks_for_return (Plain (UdtsValue return_cause parts)) = false
asks_for_return (Extended extended) = is_kind_returned extended.kind

-- ---- the hop counter of an extended message

-- it is 1 to 15 (Q.713 §3.18)
abbrev pub has_valid_hops : SccpValue → Bool
has_valid_hops (Plain unitdata) = true
has_valid_hops (Extended extended) = nat_le 1 extended.hop_counter && nat_le extended.hop_counter 15

-- a translation lowers it by one (Q.714 §2.3.1)
abbrev pub lowered : SccpValue → SccpValue
lowered (Plain unitdata) = Plain unitdata
lowered (Extended extended) = Extended (record extended { hop_counter = extended.hop_counter - 1 })

-- it came to 0
abbrev pub is_spent : SccpValue → Bool
is_spent (Plain unitdata) = false
is_spent (Extended extended) = nat_eq extended.hop_counter 0

-- ---- writing

-- whether such parts can be written in a UDT or a UDTS: the pointers and the length of the data take an octet each, and
-- the field isn't too long
abbrev pub is_writable : PartsValue → Bool
is_writable parts =
    nat_lt (3 + length (address_octets 0 parts.called) + length (address_octets 0 parts.calling)) (2 ^ 8)
    && nat_lt (length parts.data) (2 ^ 8)
    && nat_le (4 + 2 + length (pointed parts)) SIF_OCTETS

-- whether an extended message can be written: the same, and the pointer to the optional part takes an octet
abbrev pub is_extended_writable : ExtendedValue → Bool
is_extended_writable v =
    nat_lt (4 + length (address_octets 0 v.parts.called) + length (address_octets 0 v.parts.calling)) (2 ^ 8)
    && nat_lt (length v.parts.data) (2 ^ 8)
    && nat_lt (optional_pointer v.optional (after_parts v.parts)) (2 ^ 8)
    && nat_le (4 + length (extended_octets v)) SIF_OCTETS

abbrev pub is_sccp_writable : SccpValue → Bool
is_sccp_writable (Plain unitdata) = is_writable (parts_of unitdata)
is_sccp_writable (Extended extended) = is_extended_writable extended

-- the octets of a message
abbrev pub sccp_octets : SccpValue → List ℕ
sccp_octets (Plain unitdata) = spelled unitdata
sccp_octets (Extended extended) = extended_octets extended
