pub mod Journals
pub mod Bytes
