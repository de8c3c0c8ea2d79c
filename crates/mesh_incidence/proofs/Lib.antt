pub mod Chains
pub mod Passes
