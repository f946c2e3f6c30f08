pub mod Headings
pub mod Faults
pub mod Management
pub mod Values
