-- Laws of the definitions that need no run: what the proofs of the crates above cite.
pub mod Stamps
