-- What a reader must believe of a session.
pub mod Limits
pub mod Record
pub mod Parts
pub mod Questions
pub mod Fewer
pub mod Meaning
pub mod Emptied
pub mod SessionW
pub mod Program
pub mod Value
