pub mod Row
pub mod Walks
pub mod Large
pub mod Commands
pub mod Caches
