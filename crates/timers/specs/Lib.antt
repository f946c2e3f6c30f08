pub mod Timers
pub mod OneMap
pub mod Places
pub mod Tree
pub mod Moments
pub mod Table
