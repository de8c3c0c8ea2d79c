pub mod Ran
pub mod Figures
