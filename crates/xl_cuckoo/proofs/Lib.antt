mod Common
pub mod KickLemmas
pub mod LoopLemmas
pub mod KeyLemmas
pub mod TableLemmas
