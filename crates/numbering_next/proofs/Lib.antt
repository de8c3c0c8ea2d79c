pub mod Orders
pub mod Found
pub mod NextPart
