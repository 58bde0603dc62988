mod Common
mod UsedLemmas
mod BlockLemmas
