pub mod Numbers
pub mod Ends
pub mod Moves
pub mod Theorems
pub mod Openings
pub mod Example
