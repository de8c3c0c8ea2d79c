pub mod Told
pub mod Wrong
