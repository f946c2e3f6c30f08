-- The faults of management and test messages, by number.
use Rattle.std.specs.Prelude.{ℕ}
use Rattle.mtp3_codec.specs.declared.fault.MgmtFault.{MgmtFault}
use Rattle.mtp3_codec.specs.declared.fault.MgmtFault.TheVariants.{Short, NotInProfile}

abbrev pub fault_number : MgmtFault → ℕ
fault_number Short = 1
fault_number NotInProfile = 2
