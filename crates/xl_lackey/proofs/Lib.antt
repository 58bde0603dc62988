mod Common
mod AccessLemmas
pub mod AddressLemmas
mod ByteLemmas
mod LaneLemmas
mod LongLineLemmas
pub mod NearLineLemmas
pub mod PageLemmas
mod OwnFormLemmas
pub mod SkimLemmas
mod SplitLemmas
mod StepLemmas
mod TableLemmas
pub mod FirstLineLemmas
