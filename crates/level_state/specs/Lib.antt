-- What the contracts of the crates that make scheduler steps cite.
pub mod Representation
pub mod Steps
pub mod Script
pub mod Ends
