mod Common
mod SlotLemmas
mod GrowthLemmas
pub mod WayLemmas
mod WordLemmas
mod FieldLemmas
