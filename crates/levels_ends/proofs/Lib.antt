pub mod Least
pub mod Areas
pub mod Last
pub mod Trying
pub mod Copying
pub mod Passing
pub mod Ending
