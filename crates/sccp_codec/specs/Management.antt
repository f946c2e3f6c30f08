-- SCCP management: what its messages about a subsystem say, the octets that say it, and how they are read
-- (Q.713 §5).
use Rattle.std.specs.Prelude.{◌≡◌, ℕ, ◌^◌, ◌<◌, ◌==◌, nat_lt, if◌then◌else◌, List, [], ◌∷◌, ◌++◌, slice_index, length, drop, Option, Some, None, unwrap_or, Result}
use Rattle.std.specs.Option.{is_none}
use Rattle.sccp_codec.specs.declared.fault.SccpFault.{SccpFault}
use Rattle.sccp_codec.specs.declared.fault.SccpFault.TheVariants.{Short, Kind}
use Rattle.sccp_codec.specs.declared.management.ManagementKind.{ManagementKind}
use Rattle.sccp_codec.specs.declared.management.ManagementKind.TheVariants.{SubsystemAllowed, SubsystemProhibited, SubsystemStatusTest}
use Rattle.sccp_codec.specs.declared.management.SubsystemManagement.{SubsystemManagement}
use Rattle.sccp_codec.specs.Messages.{point_octets, point_at, unless}

-- what a message says
pub record ManagementValue : Type 0 where
  pub kind : ManagementKind
  -- the affected subsystem, and the affected point
  pub ssn : ℕ
  pub point : ℕ
  -- the octet of the subsystem multiplicity indicator
  pub multiplicity : ℕ

-- the format identifier: SSA, SSP, SST
abbrev pub format_of : ManagementKind → ℕ
format_of SubsystemAllowed = 1
format_of SubsystemProhibited = 2
format_of SubsystemStatusTest = 3

-- the octets of the message, with these spare bits in its point code
abbrev pub management_octets : (spare : ℕ) → ManagementValue → List ℕ
management_octets spare v = format_of v.kind ∷ v.ssn ∷ point_octets spare (Some v.point) ++ v.multiplicity ∷ []

-- the octets are a message that says this; the spare bits, and what comes after it, may be any
pub record IsManagement (text : List ℕ) (v : ManagementValue) : Type 0 where
  pub spare : ℕ
  pub spare_fits : spare < 2 ^ 2
  pub rest : List ℕ
  pub says : text ≡ management_octets spare v ++ rest
  pub point : v.point < 2 ^ 14

-- ---- reading, with the first fault that is met

-- the kind that has this format identifier
abbrev pub kind_with : ℕ → Option ManagementKind
kind_with format =
    if format == 1 then Some SubsystemAllowed
    else if format == 2 then Some SubsystemProhibited
    else if format == 3 then Some SubsystemStatusTest
    else None

-- its first octet is one of these three formats, and it has five octets at least
abbrev pub management_fault : List ℕ → Option SccpFault
management_fault text =
    if length text == 0 then Some Short
    else if is_none (kind_with (slice_index text 0)) then Some Kind
    else if nat_lt (length text) 5 then Some Short
    else None

-- what a text without fault says
abbrev pub management_in : List ℕ → ManagementValue
management_in text = record {
  kind = unwrap_or (kind_with (slice_index text 0)) SubsystemStatusTest;
  ssn = slice_index text 1;
  point = point_at (drop 1 text);
  multiplicity = slice_index text 4;
}

-- what reading a text gives: the first fault, or what it says
abbrev pub read_management : List ℕ → Result ManagementValue SccpFault
read_management text = unless (management_fault text) (management_in text)

-- what a message of the code says
abbrev pub management_of : SubsystemManagement → ManagementValue
management_of m = record { kind = m.kind; ssn = m.ssn; point = m.point; multiplicity = m.multiplicity }
