pub mod Failure
pub mod Changeover
pub mod Laws
pub mod Kept
pub mod Lanes
pub mod Inside
pub mod CompletionExamples
