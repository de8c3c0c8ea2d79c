pub mod Orders
pub mod Ran
