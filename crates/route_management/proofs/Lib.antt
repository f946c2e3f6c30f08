pub mod Basics
pub mod Rows
pub mod Owing
pub mod Listing
pub mod Walking
pub mod Settled
pub mod Shape
pub mod Finding
