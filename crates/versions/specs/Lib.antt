-- What the contracts of this crate cite.
pub mod Log
pub mod Order
pub mod Changes
