pub mod TwoCalls
pub mod MapCall
pub mod NoIdle
pub mod Runs
