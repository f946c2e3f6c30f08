pub mod Courses
pub mod Blocks
pub mod Holding
pub mod Kept
pub mod Rows
