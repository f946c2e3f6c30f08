pub mod Counted
pub mod Sights
pub mod Taking
pub mod Written
