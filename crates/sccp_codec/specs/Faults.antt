-- The faults of messages, by number.
use Rattle.std.specs.Prelude.{ℕ}
use Rattle.sccp_codec.specs.declared.fault.SccpFault.{SccpFault}
use Rattle.sccp_codec.specs.declared.fault.SccpFault.TheVariants.{Short, Pointer, Kind}

abbrev pub fault_number : SccpFault → ℕ
fault_number Short = 1
fault_number Pointer = 2
fault_number Kind = 3
