-- Laws of the definitions: what the proofs of this crate and of the crates above it cite.
pub mod Session
pub mod Starts
pub mod Spared
pub mod Representation
pub mod Reads
pub mod Changes
