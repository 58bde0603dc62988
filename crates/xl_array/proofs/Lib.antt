mod Common
pub mod DropLemmas
mod EqualLemmas
pub mod FillLemmas
mod HeldLemmas
mod LookLemmas
mod LookupLemmas
pub mod PageLemmas
mod SetLemmas
pub mod SmallLemmas
pub mod SpecLemmas
pub mod TagLemmas
pub mod TouchLemmas
