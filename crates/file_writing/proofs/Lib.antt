pub mod Bounds
pub mod Decimals
pub mod Fits
pub mod Puts
pub mod Refusals
pub mod Rows
pub mod Totals
