pub mod Any
pub mod Arrays
pub mod Coding
pub mod Equal
pub mod Held
pub mod Hits
pub mod Lookup
pub mod Touches
