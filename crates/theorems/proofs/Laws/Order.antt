-- Lists of allowed steps: any two that finish end in the same state, and the plain order is one that finishes.
pub mod Commute
pub mod Orderly
pub mod Finish
pub mod ReadIn
pub mod Accepted
pub mod Progress
pub mod Chosen
pub mod Plain
pub mod PlainRun
pub mod DepthFirst
