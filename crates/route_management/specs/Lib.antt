pub mod Told
pub mod Room
pub mod Laws
pub mod Marks
pub mod MarksRoom
pub mod Updates
