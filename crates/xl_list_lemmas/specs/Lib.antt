pub mod Buckets
pub mod Members
pub mod Tallies
