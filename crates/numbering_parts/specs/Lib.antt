pub mod Labels
pub mod Found
pub mod Walked
