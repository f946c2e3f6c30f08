pub mod Packets
pub mod Sites
pub mod Standing
