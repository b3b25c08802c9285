-- Laws of the depth-first run.
pub mod Start
pub mod Whole
pub mod Answers
