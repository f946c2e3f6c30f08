pub mod Kept
pub mod Making
pub mod Joined
pub mod Calls
pub mod Stands
pub mod Worlds
pub mod Promised
