mod Common
pub mod PlaceLemmas
pub mod SlotLemmas
pub mod ChainLemmas
pub mod HeldLemmas
pub mod FindLemmas
pub mod CountLemmas
pub mod StateLemmas
pub mod WholeLemmas
pub mod StepLemmas
pub mod SearchLemmas
pub mod GroupLemmas
