pub mod Answer
pub mod Facts
