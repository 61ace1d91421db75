pub mod Story
pub mod Edges
