-- Worked octets of extended messages and of management. tshark reads those that are read here as these definitions do.
use Rattle.std.specs.Prelude.{◌≡◌, ℕ, false, List, [], ◌∷◌, ◌++◌, Some, None, Ok, Err}
use Rattle.sccp_codec.specs.declared.address.Routing.TheVariants.{Title, Ssn}
use Rattle.sccp_codec.specs.declared.fault.SccpFault.TheVariants.{Short, Pointer, Kind}
use Rattle.sccp_codec.specs.declared.extended.ExtendedKind.TheVariants.{Xudt, Xudts}
use Rattle.sccp_codec.specs.declared.management.ManagementKind.{ManagementKind}
use Rattle.sccp_codec.specs.declared.management.ManagementKind.TheVariants.{SubsystemAllowed, SubsystemProhibited, SubsystemStatusTest}
use Rattle.sccp_codec.specs.Messages.{AddressValue}
use Rattle.sccp_codec.specs.Extended.{ExtendedValue, extended_octets, read_extended}
use Rattle.sccp_codec.specs.Management.{ManagementValue, management_octets, read_management}

-- ---- extended messages

-- the subsystem that number 491720 leads to, by title: translation type 0, numbering plan 1, even, nature 4
abbrev pub by_title : AddressValue
by_title = record {
  national = false;
  routing = Title;
  point = None;
  ssn = Some 6;
  title_indicator = 4;
  title = 0 ∷ 18 ∷ 4 ∷ 148 ∷ 113 ∷ 2 ∷ [];
}

-- a subsystem of point 2
abbrev pub of_point : AddressValue
of_point = record { national = false; routing = Ssn; point = Some 2; ssn = Some 8; title_indicator = 0; title = [] }

-- a subsystem
abbrev pub of_ssn : ℕ → AddressValue
of_ssn ssn = record { national = false; routing = Ssn; point = None; ssn = Some ssn; title_indicator = 0; title = [] }

-- an XUDT of class 1 with return on error, hop counter 15: the first segment of two of a message in sequence, of local
-- reference 1 2 3, with importance 5
abbrev pub segment : ExtendedValue
segment = record {
  kind = Xudt 129;
  hop_counter = 15;
  parts = record { called = by_title; calling = of_point; «data» = 170 ∷ 187 ∷ [] };
  optional = record { name = 16; octets = 193 ∷ 1 ∷ 2 ∷ 3 ∷ [] } ∷ record { name = 18; octets = 5 ∷ [] } ∷ [];
}

-- 11 81 0f, pointers 04 0c 10 12, called address, calling address, data, segmentation, importance, end
abbrev pub segment_octets : List ℕ
segment_octets =
    (17 ∷ 129 ∷ 15 ∷ 4 ∷ 12 ∷ 16 ∷ 18 ∷ []) ++ (8 ∷ 18 ∷ 6 ∷ 0 ∷ 18 ∷ 4 ∷ 148 ∷ 113 ∷ 2 ∷ [])
    ++ (4 ∷ 67 ∷ 2 ∷ 0 ∷ 8 ∷ []) ++ (2 ∷ 170 ∷ 187 ∷ [])
    ++ (16 ∷ 4 ∷ 193 ∷ 1 ∷ 2 ∷ 3 ∷ 18 ∷ 1 ∷ 5 ∷ 0 ∷ [])

abbrev pub segment_is_written : Type 0
segment_is_written = extended_octets segment ≡ segment_octets

abbrev pub segment_is_read : Type 0
segment_is_read = read_extended segment_octets ≡ Ok segment

-- an XUDTS of return cause 1, hop counter 14, without optional part
abbrev pub returned : ExtendedValue
returned = record {
  kind = Xudts 1;
  hop_counter = 14;
  parts = record { called = of_ssn 8; calling = of_ssn 6; «data» = 170 ∷ 187 ∷ [] };
  optional = [];
}

-- 12 01 0e, pointers 04 06 08 00, called address, calling address, data
abbrev pub returned_octets : List ℕ
returned_octets =
    (18 ∷ 1 ∷ 14 ∷ 4 ∷ 6 ∷ 8 ∷ 0 ∷ []) ++ (2 ∷ 66 ∷ 8 ∷ []) ++ (2 ∷ 66 ∷ 6 ∷ []) ++ (2 ∷ 170 ∷ 187 ∷ [])

abbrev pub returned_is_written : Type 0
returned_is_written = extended_octets returned ≡ returned_octets

abbrev pub returned_is_read : Type 0
returned_is_read = read_extended returned_octets ≡ Ok returned

-- the same with its data first, and an optional part without parameters
abbrev pub data_first_is_read : Type 0
data_first_is_read =
    read_extended ((18 ∷ 1 ∷ 14 ∷ 7 ∷ 9 ∷ 2 ∷ 10 ∷ []) ++ (2 ∷ 170 ∷ 187 ∷ []) ++ (2 ∷ 66 ∷ 8 ∷ []) ++ (2 ∷ 66 ∷ 6 ∷ [])
    ++ 0 ∷ []) ≡ Ok returned

-- the same with another optional part
abbrev pub with_optional : List ℕ → List ℕ
with_optional optional =
    (18 ∷ 1 ∷ 14 ∷ 4 ∷ 6 ∷ 8 ∷ 10 ∷ []) ++ (2 ∷ 66 ∷ 8 ∷ []) ++ (2 ∷ 66 ∷ 6 ∷ []) ++ (2 ∷ 170 ∷ 187 ∷ []) ++ optional

-- a parameter of any other name is kept as it came, and what comes after the end is ignored
abbrev pub other_parameter_is_kept : Type 0
other_parameter_is_kept =
    read_extended (with_optional (32 ∷ 2 ∷ 0 ∷ 0 ∷ 0 ∷ 7 ∷ []))
    ≡ Ok (record returned { optional = record { name = 32; octets = 0 ∷ 0 ∷ [] } ∷ [] })

-- what is refused: importance without an end after it, a parameter that runs beyond the end, segmentation of three
-- octets, an optional part beyond the end; a UDT; six octets
abbrev pub no_end_is_refused : Type 0
no_end_is_refused = read_extended (with_optional (18 ∷ 1 ∷ 5 ∷ [])) ≡ Err Pointer

abbrev pub beyond_the_end_is_refused : Type 0
beyond_the_end_is_refused = read_extended (with_optional (32 ∷ 3 ∷ 0 ∷ 0 ∷ [])) ≡ Err Pointer

abbrev pub short_segmentation_is_refused : Type 0
short_segmentation_is_refused = read_extended (with_optional (16 ∷ 3 ∷ 193 ∷ 1 ∷ 2 ∷ 0 ∷ [])) ≡ Err Pointer

abbrev pub no_optional_part_is_refused : Type 0
no_optional_part_is_refused = read_extended (with_optional []) ≡ Err Pointer

abbrev pub a_udt_is_refused : Type 0
a_udt_is_refused = read_extended (9 ∷ 0 ∷ []) ≡ Err Kind

abbrev pub six_octets_are_refused : Type 0
six_octets_are_refused = read_extended (17 ∷ 0 ∷ 15 ∷ 4 ∷ 6 ∷ 8 ∷ []) ≡ Err Short

-- ---- management

-- about subsystem 8 of point 300
abbrev pub about : ManagementKind → ManagementValue
about kind = record { kind = kind; ssn = 8; point = 300; multiplicity = 0 }

-- SSA 01 08 2c 01 00, SSP 02 .., SST 03 ..
abbrev pub about_octets : (format : ℕ) → List ℕ
about_octets format = format ∷ 8 ∷ 44 ∷ 1 ∷ 0 ∷ []

abbrev pub allowed_is_written : Type 0
allowed_is_written = management_octets 0 (about SubsystemAllowed) ≡ about_octets 1

abbrev pub allowed_is_read : Type 0
allowed_is_read = read_management (about_octets 1) ≡ Ok (about SubsystemAllowed)

abbrev pub prohibited_is_written : Type 0
prohibited_is_written = management_octets 0 (about SubsystemProhibited) ≡ about_octets 2

abbrev pub prohibited_is_read : Type 0
prohibited_is_read = read_management (about_octets 2) ≡ Ok (about SubsystemProhibited)

abbrev pub test_is_written : Type 0
test_is_written = management_octets 0 (about SubsystemStatusTest) ≡ about_octets 3

abbrev pub test_is_read : Type 0
test_is_read = read_management (about_octets 3) ≡ Ok (about SubsystemStatusTest)

-- the two top bits of the point code are ignored, and so is what comes after
abbrev pub spare_bits_are_ignored : Type 0
spare_bits_are_ignored = read_management (1 ∷ 8 ∷ 44 ∷ 193 ∷ 0 ∷ 9 ∷ []) ≡ Ok (about SubsystemAllowed)

-- a subsystem out-of-service request; four octets
abbrev pub other_format_is_refused : Type 0
other_format_is_refused = read_management (about_octets 4) ≡ Err Kind

abbrev pub four_octets_are_refused : Type 0
four_octets_are_refused = read_management (1 ∷ 8 ∷ 44 ∷ 1 ∷ []) ≡ Err Short
