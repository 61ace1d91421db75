pub mod Greatest
pub mod Indexes
pub mod Cut
pub mod Taken
pub mod Played
pub mod Vectors
