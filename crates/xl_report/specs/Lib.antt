pub mod Halves
pub mod Json
pub mod Replies
