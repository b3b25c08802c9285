-- What the contracts of this crate cite.
pub mod Counting
pub mod Words
