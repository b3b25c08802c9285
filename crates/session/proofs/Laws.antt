-- Laws of the definitions: what the proofs of this crate and of the crates above it cite.
pub mod Verdict
pub mod Record
pub mod Parts
pub mod Whole
pub mod Emptied
pub mod EmptiedAccepted
pub mod Numbering
pub mod Contents
pub mod Accepted
pub mod Program
pub mod Numbers
