pub mod Accepted
pub mod Output
pub mod Refused
