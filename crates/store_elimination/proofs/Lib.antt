pub mod Degrees
pub mod MarkCounts
pub mod OneEach
pub mod Lent
pub mod Answers
