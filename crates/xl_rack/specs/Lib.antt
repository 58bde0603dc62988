pub mod Forms
pub mod Slots
pub mod Answers
pub mod Batches
pub mod Beside
