-- Laws of the definitions: what the proofs of this crate and of the crates above it cite.
pub mod Order
pub mod Join
pub mod Meet
pub mod Table
