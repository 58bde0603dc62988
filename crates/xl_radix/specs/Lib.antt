pub mod ReadBack
pub mod Filled
pub mod Lazy
pub mod Walk
pub mod Table
pub mod Steps
