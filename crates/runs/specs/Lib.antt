pub mod Run
pub mod Held
pub mod Answers
pub mod Inside
pub mod Texts
