-- Laws of the definitions: what the proofs of this crate and of the crates above it cite.
pub mod Product
pub mod Insert
pub mod Outside
pub mod Moves
pub mod Rows
pub mod Kept
