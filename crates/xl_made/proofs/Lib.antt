mod Common
pub mod MadeLemmas
pub mod ReadLemmas
