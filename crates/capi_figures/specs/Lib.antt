pub mod Figures
pub mod Claimed
