-- The faults of a network, by their numbers.
use Rattle.std.specs.Prelude.{ℕ}
use Rattle.network_world.specs.declared.fault.NetworkFault.{NetworkFault}
use Rattle.network_world.specs.declared.fault.NetworkFault.TheVariants as network

abbrev pub network_fault_number : NetworkFault → ℕ
network_fault_number network.SamePoint = 1
network_fault_number network.NotJoined = 2
network_fault_number network.NoMemory = 3
