-- The numbers of the faults of a frame's numbers.
use Rattle.std.specs.Prelude.{ℕ}
use Rattle.link.specs.declared.fault.SeqFault.{SeqFault}
use Rattle.link.specs.declared.fault.SeqFault.TheVariants.{BadFsn, BadBsn}

abbrev pub seq_fault_number : SeqFault → ℕ
seq_fault_number BadFsn = 1
seq_fault_number BadBsn = 2
