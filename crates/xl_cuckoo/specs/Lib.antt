pub mod State
pub mod Undo
pub mod Table
pub mod Growth
pub mod Steps
