-- The faults of a trie, by number.
use Rattle.std.specs.Prelude.{ℕ}
use Rattle.sccp_relay.specs.declared.fault.TrieFault.{TrieFault}
use Rattle.sccp_relay.specs.declared.fault.TrieFault.TheVariants.{Present, NoMemory}

abbrev pub fault_number : TrieFault → ℕ
fault_number Present = 1
fault_number NoMemory = 2
