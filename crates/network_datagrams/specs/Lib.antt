pub mod NetworkWorlds
pub mod NetworkPromises
pub mod Example
