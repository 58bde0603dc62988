pub mod Treaps
pub mod Lines
pub mod Back
pub mod Trees
pub mod Steps
pub mod Kept
