pub mod Basics
pub mod Completing
pub mod Finishing
pub mod Keeping
pub mod Splicing
pub mod CompletionExamples
pub mod Unasked
