pub mod Harting
pub mod Cuts
