-- Laws of the definitions: what the proofs of this crate and of the crates above it cite.
pub mod Packing
pub mod Log
pub mod Scan
pub mod Order
pub mod Cleared
