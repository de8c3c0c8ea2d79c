pub mod Erasing
pub mod Unknowns
