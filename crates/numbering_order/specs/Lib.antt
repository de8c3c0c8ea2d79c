pub mod Model
pub mod Root
