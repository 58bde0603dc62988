pub mod Decode
pub mod ReadBack
