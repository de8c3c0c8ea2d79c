pub mod Growing
pub mod Parts
