pub mod CallsImport
pub mod ClaimImport
