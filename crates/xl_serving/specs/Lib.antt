pub mod Traces
pub mod Tapes
pub mod Serving
pub mod Inputs
pub mod Batches
pub mod Plain
pub mod Laws
