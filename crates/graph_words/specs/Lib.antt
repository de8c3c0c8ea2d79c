pub mod Erasable
