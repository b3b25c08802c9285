-- Laws of the definitions: what the proofs of this crate and of the crates above it cite.
pub mod Level
pub mod Unsettled
pub mod Outside
pub mod Left
pub mod Running
pub mod Next
