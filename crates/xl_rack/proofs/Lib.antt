mod Common
mod SlotLemmas
mod AnswerLemmas
mod BatchLemmas
mod BesideLemmas
pub mod RowsLemmas
