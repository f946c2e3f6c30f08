pub mod Bringing
pub mod HeardAll
pub mod Networks
pub mod Reading
pub mod Standing
