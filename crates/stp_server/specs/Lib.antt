pub mod Stopping
pub mod Turns
