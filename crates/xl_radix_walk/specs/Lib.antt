pub mod Path
pub mod Row
pub mod Quick
