-- Laws of the definitions: what the proofs of this crate and of the crates above it cite.
pub mod Words
pub mod Kinds
pub mod Chains
