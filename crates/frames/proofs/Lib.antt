pub mod Writes
pub mod Candidate
pub mod Decoding
