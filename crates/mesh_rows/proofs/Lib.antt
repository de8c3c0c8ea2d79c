pub mod Bound
pub mod Laying
pub mod Rows
