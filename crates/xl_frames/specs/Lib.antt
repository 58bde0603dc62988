pub mod Blocks
pub mod Pool
