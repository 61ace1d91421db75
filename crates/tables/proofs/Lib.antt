pub mod Families
pub mod Lowered
