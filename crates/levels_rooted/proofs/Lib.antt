pub mod Visiting
pub mod Searching
pub mod Zeros
