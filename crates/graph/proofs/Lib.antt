pub mod Ways
pub mod Rows
pub mod Counting
pub mod Pairs
pub mod Answers
