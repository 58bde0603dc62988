pub mod Plain
pub mod Kept
