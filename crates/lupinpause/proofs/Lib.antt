pub mod Answered
pub mod Taken
