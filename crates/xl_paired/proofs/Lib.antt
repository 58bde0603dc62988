pub mod PairLemmas
pub mod SkimLemmas
