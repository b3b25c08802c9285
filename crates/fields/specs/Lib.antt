-- What the contracts of this crate cite.
pub mod Limits
pub mod Fields
pub mod Reads
