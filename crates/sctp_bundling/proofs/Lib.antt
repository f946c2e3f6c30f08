pub mod Rows
pub mod Giving
pub mod Complaining
pub mod Bundling
pub mod Sacks
