pub mod Said
pub mod Shown
pub mod Told
pub mod Worlds
pub mod Theorems
pub mod Example
pub mod Keyed
