-- Laws of the runs: what the proofs of this crate cite.
pub mod Start
pub mod Answers
