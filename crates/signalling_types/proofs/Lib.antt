pub mod Clearing
pub mod Octets
