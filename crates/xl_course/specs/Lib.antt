pub mod Stops
pub mod Messages
pub mod Meanings
pub mod Courses
pub mod Sources
pub mod Serving
pub mod Accounts
