pub mod Nesting
pub mod Accounts
pub mod Cuts
