-- The depth-first run as a list of safe steps.
pub mod Quiescent
pub mod Working
pub mod Ready
pub mod DeepStep
pub mod DeepFork
pub mod DeepRun
pub mod Root
