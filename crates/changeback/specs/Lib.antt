pub mod Codes
pub mod Inside
pub mod Return
pub mod Rerouting
pub mod Laws
pub mod Seen
