pub mod Counts
pub mod Listing
pub mod Widest
pub mod Searches
