pub mod Rows
pub mod Holds
pub mod Stored
pub mod Pairs
pub mod Table
pub mod TableRoom
pub mod Room
pub mod HoldExamples
