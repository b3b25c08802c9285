-- What a reader must believe of a run, in the order of document 01.
pub mod Limits
pub mod Fork
pub mod History
pub mod Level
pub mod Step
pub mod Schedule
pub mod DepthFirst
pub mod Result
pub mod Rules
