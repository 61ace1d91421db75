pub mod Tested
pub mod Worlds
pub mod Rows
pub mod Each
