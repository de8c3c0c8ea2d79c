pub mod Answer
pub mod Edges
