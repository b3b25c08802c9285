-- Laws of the definitions: what the proofs of this crate and of the crates above it cite.
pub mod Frames
pub mod Values
