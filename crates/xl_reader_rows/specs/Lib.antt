pub mod Computing
pub mod Traces
pub mod Scripts
pub mod Configs
