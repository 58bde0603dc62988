pub mod Coding
pub mod Walks
pub mod Kept
pub mod Laws
pub mod Commands
pub mod Fronts
