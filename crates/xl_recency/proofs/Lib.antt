mod Common
mod FrontLemmas
mod MarkLemmas
pub mod ScanLemmas
mod TotalLemmas
