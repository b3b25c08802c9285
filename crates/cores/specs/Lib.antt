-- What the contracts of this crate cite.
pub mod Core
pub mod Moves
