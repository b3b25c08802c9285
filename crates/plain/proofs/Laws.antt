-- Laws of the plain run: what the proofs of this crate cite.
pub mod Plain
