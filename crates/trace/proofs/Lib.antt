pub mod Joined
pub mod Written
pub mod Numbering
pub mod Captured
pub mod Digits
