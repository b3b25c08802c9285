-- What the code of the runs relies on.
pub mod Direct
pub mod DepthFirst
pub mod Bounds
pub mod Reachable
pub mod Reached
pub mod Needs
pub mod Progress
pub mod Histories
