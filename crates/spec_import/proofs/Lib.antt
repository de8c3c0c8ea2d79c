pub mod Compute
pub mod ImportTable
pub mod WrongImport
