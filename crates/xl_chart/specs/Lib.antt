pub mod Charts
pub mod Follows
