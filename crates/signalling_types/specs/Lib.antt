pub mod Message
pub mod Room
pub mod InPlace
pub mod Causes
pub mod Notices
pub mod Numbers
