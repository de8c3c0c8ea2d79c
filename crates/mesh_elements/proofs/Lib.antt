pub mod Remains
pub mod Elements
