pub mod Answer
pub mod Measurable
pub mod Fronts
