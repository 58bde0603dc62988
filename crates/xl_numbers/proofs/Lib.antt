mod Common
mod BitLemmas
mod LevelLemmas
pub mod FlagLemmas
mod ViewLemmas
