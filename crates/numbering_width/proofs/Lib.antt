pub mod Raised
pub mod Weights
pub mod Weighing
pub mod Structure
