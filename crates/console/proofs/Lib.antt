pub mod Parting
pub mod LastWords
pub mod NearestWord
pub mod Trimmed
