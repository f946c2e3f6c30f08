pub mod Cells
pub mod StatusNumbers
pub mod FrameTexts
pub mod Windows
pub mod StreamTexts
