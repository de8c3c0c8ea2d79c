pub mod Counted
pub mod Room
