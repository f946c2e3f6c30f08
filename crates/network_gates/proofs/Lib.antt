pub mod NodeEnds
pub mod WorldEnds
pub mod Lawful
pub mod Running
pub mod Promised
pub mod Possible
pub mod Reading
pub mod Alone
