pub mod Bytes
pub mod Copies
pub mod Counted
pub mod FileCounts
pub mod Files
pub mod Passing
