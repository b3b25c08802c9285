-- What the contracts of this crate cite.
pub mod Starts
pub mod Representation
pub mod Changes
