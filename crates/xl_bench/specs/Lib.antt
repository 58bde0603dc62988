pub mod Machines
pub mod Accounts
