pub mod Slots
pub mod Words
pub mod Back
pub mod Kept
pub mod Cells
