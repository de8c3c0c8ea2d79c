pub mod Words
pub mod Stacks
pub mod Sort
pub mod Sift
pub mod Top
pub mod Deal
pub mod Clear
pub mod Down
