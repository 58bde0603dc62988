pub mod AllowedLemmas
pub mod ArrayLemmas
pub mod BoolLemmas
pub mod CodeLemmas
pub mod OrderLemmas
pub mod PermLemmas
mod PowerLemmas
