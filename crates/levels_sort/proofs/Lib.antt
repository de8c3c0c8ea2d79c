pub mod Sift
pub mod InE
