pub mod Edges
pub mod Stores
pub mod Counts
