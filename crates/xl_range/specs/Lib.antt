pub mod Puts
pub mod Cuts
pub mod Rows
pub mod HeldRanges
pub mod RangeCoding
