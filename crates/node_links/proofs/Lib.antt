pub mod Basics
pub mod Serving
pub mod Chosen
