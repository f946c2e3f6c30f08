pub mod GateWorlds
pub mod GateCalls
pub mod GatePromises
pub mod Possible
pub mod GateOctets
pub mod GatesAlone
