pub mod Allowances
pub mod AmongLinks
pub mod Counted
pub mod GivenAddresses
pub mod Heard
pub mod Refused
