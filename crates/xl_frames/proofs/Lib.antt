mod Common
mod BlockLemmas
pub mod MarkLemmas
mod SetLemmas
