pub mod Numbers
pub mod Levels
pub mod Given
pub mod Handover
pub mod Steps
pub mod Single
