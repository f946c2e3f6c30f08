pub mod Kept
pub mod Stands
pub mod Doing
