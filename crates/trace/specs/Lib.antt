pub mod Words
pub mod Packets
pub mod Captures
pub mod Observed
pub mod Ring
pub mod Names
