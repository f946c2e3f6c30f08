-- What the extended messages of the code say, without the places of their octets.
use Rattle.std.specs.Prelude.{List}
use Rattle.sccp_codec.specs.declared.optional.OptionalPart.{OptionalPart}
use Rattle.sccp_codec.specs.declared.extended.ExtendedUnitdata.{ExtendedUnitdata}
use Rattle.sccp_codec.specs.Extended.{ExtendedValue, ParameterValue, parameters_in}
use Rattle.sccp_codec.specs.Values.{parts_value}

-- the parameters that the octets of an optional part are
abbrev pub parameters_of : OptionalPart → List ParameterValue
parameters_of part = parameters_in part.octets.now

abbrev pub extended_of : ExtendedUnitdata → ExtendedValue
extended_of m = record {
  kind = m.kind;
  hop_counter = m.hop_counter;
  parts = parts_value m.parts;
  optional = parameters_of m.optional;
}
