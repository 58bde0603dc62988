pub mod Forms
pub mod Slots
pub mod Counted
pub mod Tagged
pub mod Steps
pub mod Groups
