pub mod ShortRuns
pub mod Undamaged
pub mod Whole
