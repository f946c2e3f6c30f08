pub mod Basics
pub mod Changes
pub mod Held
pub mod Moved
pub mod Places
pub mod Rerouted
pub mod Sets
pub mod ToAnother
