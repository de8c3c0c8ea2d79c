pub mod Answer
pub mod Late
