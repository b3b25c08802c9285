-- A scheduler step: what it sees, where its fork goes, and when two commute.
pub mod Arrivals
pub mod Locality
pub mod Diamond
pub mod Moves
pub mod May
pub mod Reads
