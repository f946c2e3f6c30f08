-- What the messages of the code say, without where their octets lie.
use Rattle.std.specs.Prelude.{◌≡◌, Result, Ok, Err}
use Rattle.sccp_codec.specs.declared.fault.SccpFault.{SccpFault}
use Rattle.sccp_codec.specs.declared.address.Address.{Address}
use Rattle.sccp_codec.specs.declared.unitdata.Parts.{Parts}
use Rattle.sccp_codec.specs.declared.unitdata.Udt.{Udt as UdtMessage}
use Rattle.sccp_codec.specs.declared.unitdata.Udts.{Udts as UdtsMessage}
use Rattle.sccp_codec.specs.declared.unitdata.Unitdata.{Unitdata}
use Rattle.sccp_codec.specs.declared.unitdata.Unitdata.TheVariants.{Udt, Udts}
use Rattle.sccp_codec.specs.Messages.{AddressValue, PartsValue, UnitdataValue, UdtValue, UdtsValue}

abbrev pub address_of : Address → AddressValue
address_of a = record {
  national = a.national;
  routing = a.routing;
  point = a.point;
  ssn = a.ssn;
  title_indicator = a.title_indicator;
  title = a.title.now;
}

abbrev pub parts_value : Parts → PartsValue
parts_value p = record { called = address_of p.called; calling = address_of p.calling; «data» = p.data.now }

abbrev pub udt_of : UdtMessage → UnitdataValue
udt_of udt = UdtValue udt.class_octet (parts_value udt.parts)

abbrev pub udts_of : UdtsMessage → UnitdataValue
udts_of udts = UdtsValue udts.return_cause (parts_value udts.parts)

abbrev pub unitdata_of : Unitdata → UnitdataValue
unitdata_of (Udt udt) = udt_of udt
unitdata_of (Udts udts) = udts_of udts

-- what the code answers, seen as a value, is what reading gives
abbrev pub Gives : {X V : Type 0} → (X → V) → Result X SccpFault → Result V SccpFault → Type 0
Gives view (Ok x) read = read ≡ Ok (view x)
Gives view (Err fault) read = read ≡ Err fault
