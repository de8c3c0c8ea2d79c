pub mod Passes
pub mod Answer
