pub mod Frames
pub mod Values
pub mod Types
pub mod Streams
pub mod Held
