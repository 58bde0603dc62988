pub mod Places
pub mod Slots
pub mod Tests
pub mod Views
