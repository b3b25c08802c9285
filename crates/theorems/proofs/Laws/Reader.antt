-- What a reader sees: isolation of levels, and the bytes of answers.
pub mod Isolation
pub mod Bytes
pub mod Fields
pub mod Shown
pub mod Answers
