pub mod Linear
pub mod Entries
