pub mod Max
pub mod Three
pub mod Opened
pub mod Widths
pub mod Passed
pub mod Swept
