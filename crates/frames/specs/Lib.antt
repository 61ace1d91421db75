pub mod Frames
pub mod Reads
pub mod Inside
