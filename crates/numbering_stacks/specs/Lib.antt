pub mod Part
pub mod Stacks
