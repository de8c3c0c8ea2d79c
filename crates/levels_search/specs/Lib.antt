pub mod Marks
pub mod Queue
pub mod Answer
