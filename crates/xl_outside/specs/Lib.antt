pub mod Outside
pub mod Folders
pub mod Sinks
pub mod Fronts
pub mod Streams
pub mod Memory
pub mod Whole
