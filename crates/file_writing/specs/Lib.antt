pub mod Figures
pub mod Listed
pub mod Written
