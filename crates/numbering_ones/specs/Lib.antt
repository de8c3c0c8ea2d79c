pub mod Three
pub mod Fronts
