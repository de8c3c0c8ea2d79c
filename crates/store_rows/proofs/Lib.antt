pub mod Starts
pub mod Columns
pub mod Rows
