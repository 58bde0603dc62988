pub mod BitLemmas
mod AllowedLemmas
mod SmallLemmas
