-- Laws of what an accepted session says: what the proofs of this crate and of the crates above it cite.
pub mod Methods
pub mod Session
