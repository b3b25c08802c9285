-- Laws of the run by a timetable: what the proofs of this crate cite.
pub mod Listed
