pub mod Reported
pub mod Found
pub mod Refusals
