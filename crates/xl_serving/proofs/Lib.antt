mod Common
mod PieceLemmas
mod RecordLemmas
mod SkimLemmas
pub mod BatchLemmas
pub mod AreaLemmas
pub mod ItemLemmas
pub mod InputLemmas
pub mod EndLemmas
pub mod PlainLemmas
mod LawLemmas
