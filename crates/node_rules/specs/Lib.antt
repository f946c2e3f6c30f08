pub mod Worlds
pub mod Promises
pub mod Alone
pub mod Example
pub mod Crossing
