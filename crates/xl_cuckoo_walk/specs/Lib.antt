pub mod Coding
pub mod Known
pub mod Parts
pub mod Plans
pub mod Looks
pub mod Changes
pub mod Openings
pub mod Soles
