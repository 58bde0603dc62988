pub mod Tally
pub mod Stages
pub mod Rules
pub mod Nested
pub mod Computing
