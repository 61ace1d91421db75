pub mod Loaded
pub mod Replayed
pub mod Standing
