pub mod Requests
pub mod Tally
pub mod Harts
pub mod Computing
