pub mod Faults
pub mod Memory
pub mod Carrying
pub mod Script
pub mod Network
pub mod Hearing
