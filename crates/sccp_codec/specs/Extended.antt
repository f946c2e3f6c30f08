-- Extended unitdata: what they say, the octets that say it, and how they are read (Q.713 §1.6, §4.18, §4.19).
use Rattle.std.specs.Prelude.{◌≡◌, ℕ, zero, suc, ◌+◌, ◌^◌, ◌<◌, ◌⊎◌, Bool, true, ◌==◌, ◌&&◌, not, nat_le, if◌then◌else◌, List, [], ◌∷◌, ◌++◌, slice_index, length, take, drop, Option, Some, None, is_some, unwrap_or, ◌≤◌, Result}
use Rattle.std.specs.List.{list_all}
use Rattle.signalling_types.specs.declared.limits.TheConstants.Limits.{SIF_OCTETS}
use Rattle.sccp_codec.specs.declared.fault.SccpFault.{SccpFault}
use Rattle.sccp_codec.specs.declared.fault.SccpFault.TheVariants.{Pointer}
use Rattle.sccp_codec.specs.declared.extended.ExtendedKind.{ExtendedKind}
use Rattle.sccp_codec.specs.declared.extended.ExtendedKind.TheVariants.{Xudt, Xudts}
use Rattle.sccp_codec.specs.Messages.{PartsValue, IsPartsValue, HasAddress, IsPart, HasOctets, length_place, address_octets, counted, counted_parts, first_fault, header_fault, parts_fault, parts_in, unless}

-- ---- optional parameters

-- an optional parameter: its name, and its octets (Q.713 §1.6)
pub record ParameterValue : Type 0 where
  pub name : ℕ
  pub octets : List ℕ

-- segmentation has four octets, importance has one, and others may have any number (Q.713 §3.17, §3.19)
abbrev pub has_its_length : (name count : ℕ) → Bool
has_its_length name count = if name == 16 then count == 4 else if name == 18 then count == 1 else true

-- no parameter has the name 0, which ends the optional part (Q.713 §3.1)
abbrev pub is_parameter : ParameterValue → Bool
is_parameter p = not (p.name == 0) && has_its_length p.name (length p.octets)

-- its name, its length, and its octets
abbrev pub parameter_octets : ParameterValue → List ℕ
parameter_octets p = p.name ∷ counted p.octets

-- the parameters, one after another
abbrev pub parameters_octets : List ParameterValue → List ℕ
parameters_octets [] = []
parameters_octets (p ∷ ps) = parameter_octets p ++ parameters_octets ps

-- the octets of the first parameter of this name
abbrev pub first_named : (name : ℕ) → List ParameterValue → Option (List ℕ)
first_named name [] = None
first_named name (p ∷ ps) = if p.name == name then Some p.octets else first_named name ps

-- ---- what a message says

pub record ExtendedValue : Type 0 where
  pub kind : ExtendedKind
  pub hop_counter : ℕ
  pub parts : PartsValue
  pub optional : List ParameterValue

-- the message type (Q.713 §2.1)
abbrev pub type_of : ExtendedKind → ℕ
type_of (Xudt class_octet) = 17
type_of (Xudts return_cause) = 18

-- the octet after the message type
abbrev pub after_type : ExtendedKind → ℕ
after_type (Xudt class_octet) = class_octet
after_type (Xudts return_cause) = return_cause

-- ---- what octets say

-- these octets begin with the parameters, and then the octet 0
pub record BeginWith (octets : List ℕ) (parameters : List ParameterValue) : Type 0 where
  pub rest : List ℕ
  pub says : octets ≡ parameters_octets parameters ++ 0 ∷ rest
  pub legal : list_all is_parameter parameters ≡ true

-- the pointer at this octet is 0, and there is no parameter, or it names an optional part of these (Q.713 §2.3)
abbrev pub HasOptional : List ℕ → ℕ → List ParameterValue → Type 0
HasOptional text pointer parameters =
    ((slice_index text pointer ≡ 0) × (parameters ≡ []))
    ⊎ ((0 < slice_index text pointer) × BeginWith (drop (length_place text pointer) text) parameters)

-- the octets are a message that says this; its parts may lie anywhere after the seven octets of type, class or cause,
-- hop counter and pointers
pub record IsExtended (text : List ℕ) (v : ExtendedValue) : Type 0 where
  pub long : 7 ≤ length text
  pub type : slice_index text 0 ≡ type_of v.kind
  pub second : slice_index text 1 ≡ after_type v.kind
  pub hops : slice_index text 2 ≡ v.hop_counter
  pub called : HasAddress 7 text 3 v.parts.called
  pub calling : HasAddress 7 text 4 v.parts.calling
  pub carried : IsPart 7 text 5 v.parts.data
  pub optional : HasOptional text 6 v.optional

-- ---- the octets that are written

-- the octets of the optional part: the parameters, and the octet 0 after them; nothing, if there are none
abbrev pub optional_octets : List ParameterValue → List ℕ
optional_octets ps = if length ps == 0 then [] else parameters_octets ps ++ 0 ∷ []

-- the pointer to the optional part, if it is so far away; 0, if there is none
abbrev pub optional_pointer : List ParameterValue → (away : ℕ) → ℕ
optional_pointer ps away = if length ps == 0 then 0 else away

-- how far the octet after the parts is from its pointer, the last of four
abbrev pub after_parts : PartsValue → ℕ
after_parts parts =
    4 + length (address_octets 0 parts.called) + length (address_octets 0 parts.calling) + length parts.data

-- the pointers to the parts, in their order, without gaps
abbrev pub four_pointers : PartsValue → List ParameterValue → List ℕ
four_pointers parts optional =
    4 ∷ (4 + length (address_octets 0 parts.called))
    ∷ (4 + length (address_octets 0 parts.called) + length (address_octets 0 parts.calling))
    ∷ optional_pointer optional (after_parts parts) ∷ []

-- the message, with every spare bit 0
abbrev pub extended_octets : ExtendedValue → List ℕ
extended_octets v =
    (type_of v.kind ∷ after_type v.kind ∷ v.hop_counter ∷ []) ++ four_pointers v.parts v.optional
    ++ counted_parts v.parts ++ optional_octets v.optional

-- what can be written: each pointer and each length is an octet, and the label of four octets and the message fit a
-- signalling information field
pub record IsExtendedWritable (v : ExtendedValue) : Type 0 where
  pub octets : HasOctets 4 v.parts
  pub pointer : optional_pointer v.optional (after_parts v.parts) < 2 ^ 8
  pub field : 4 + length (extended_octets v) ≤ SIF_OCTETS

-- what a message can say
pub record IsExtendedValue (v : ExtendedValue) : Type 0 where
  pub parts : IsPartsValue v.parts
  pub optional : list_all is_parameter v.optional ≡ true

-- ---- reading, with the first fault that is met

-- the first parameter of these octets, and what comes after it
abbrev pub first_parameter : List ℕ → ParameterValue
first_parameter octets = record {
  name = slice_index octets 0;
  octets = take (slice_index octets 1) (drop 2 octets);
}

abbrev pub after_first : List ℕ → List ℕ
after_first octets = drop (2 + slice_index octets 1) octets

-- the first parameter is there whole
abbrev pub is_there : List ℕ → Bool
is_there octets = nat_le (2 + slice_index octets 1) (length octets)

-- and it has the length of its name
abbrev pub begins_whole : List ℕ → Bool
begins_whole octets = is_there octets && has_its_length (slice_index octets 0) (slice_index octets 1)

abbrev pub with_first : ParameterValue → Option (List ParameterValue) → Option (List ParameterValue)
with_first p None = None
with_first p (Some ps) = Some (p ∷ ps)

-- the parameters before the octet 0, in so many steps at most; None if they don't end, or one of them isn't whole
unfoldable pub read_up_to : ℕ → List ℕ → Option (List ParameterValue)
read_up_to most [] = None
read_up_to zero (name ∷ octets) = None
read_up_to (suc most) (name ∷ octets) =
    if name == 0 then Some []
    else if begins_whole (name ∷ octets)
    then with_first (first_parameter (name ∷ octets)) (read_up_to most (after_first (name ∷ octets)))
    else None

abbrev pub read_parameters : List ℕ → Option (List ParameterValue)
read_parameters octets = read_up_to (length octets) octets

-- the parameters that the octets are, without the octet 0 after them
abbrev pub parameters_in : List ℕ → List ParameterValue
parameters_in octets = unwrap_or (read_parameters (octets ++ 0 ∷ [])) []

-- the octets are parameters to their end
pub record AreParameters (octets : List ℕ) : Type 0 where
  pub says : octets ≡ parameters_octets (parameters_in octets)
  pub legal : list_all is_parameter (parameters_in octets) ≡ true

-- the parameters of the optional part that the pointer at this octet names; none if the pointer is 0
abbrev pub read_optional : List ℕ → ℕ → Option (List ParameterValue)
read_optional text pointer =
    if slice_index text pointer == 0 then Some [] else read_parameters (drop (length_place text pointer) text)

-- the pointer names an optional part
abbrev pub optional_fault : List ℕ → ℕ → Option SccpFault
optional_fault text pointer = if is_some (read_optional text pointer) then None else Some Pointer

-- the first fault of a text
abbrev pub extended_fault : List ℕ → Option SccpFault
extended_fault text = first_fault (header_fault 17 18 7 text ∷ parts_fault 3 7 text ∷ optional_fault text 6 ∷ [])

-- what a text without fault says
abbrev pub kind_in : List ℕ → ExtendedKind
kind_in text = if slice_index text 0 == 17 then Xudt (slice_index text 1) else Xudts (slice_index text 1)

abbrev pub extended_in : List ℕ → ExtendedValue
extended_in text = record {
  kind = kind_in text;
  hop_counter = slice_index text 2;
  parts = parts_in 3 text;
  optional = unwrap_or (read_optional text 6) [];
}

-- what reading a text gives: the first fault, or what it says
abbrev pub read_extended : List ℕ → Result ExtendedValue SccpFault
read_extended text = unless (extended_fault text) (extended_in text)
