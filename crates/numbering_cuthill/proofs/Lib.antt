pub mod Wiping
pub mod Ordering
pub mod Rooting
pub mod Steps
