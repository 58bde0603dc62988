pub mod Commands
pub mod Numbers
pub mod Placing
pub mod Plain
pub mod Reading
pub mod Scripts
pub mod Texts
pub mod Words
