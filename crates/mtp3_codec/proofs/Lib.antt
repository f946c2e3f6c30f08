pub mod Labels
pub mod Reading
pub mod TestKinds
