pub mod Answers
pub mod GraphLists
pub mod MeshGraph
