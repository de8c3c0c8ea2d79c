pub mod Placing
pub mod Rises
pub mod Spans
pub mod Shares
pub mod Ready
pub mod Laid
