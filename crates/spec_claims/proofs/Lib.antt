pub mod Compute
pub mod Wrong
pub mod WrongStore
pub mod WrongCalls
pub mod WrongCuthill
pub mod IdleTable
pub mod WrongIdle
pub mod WrongUnknowns
