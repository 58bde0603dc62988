pub mod Arrays
pub mod Config
pub mod Keys
pub mod Rows
pub mod Tables
