pub mod Intervals
pub mod Lines
pub mod Built
pub mod Played
pub mod Vectors
pub mod Laws
