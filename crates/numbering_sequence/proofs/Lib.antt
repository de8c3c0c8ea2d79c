pub mod Stored
pub mod Mirrored
pub mod Members
pub mod Structured
pub mod Arranged
pub mod Sequenced
