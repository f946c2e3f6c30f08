pub mod Adding
pub mod Counting
pub mod Seeing
pub mod Shown
mod Fields
