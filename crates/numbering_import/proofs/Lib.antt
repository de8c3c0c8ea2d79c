pub mod Import
pub mod ByPair
pub mod Seen
pub mod Supplied
pub mod Late
pub mod Answers
pub mod TwoCalls
