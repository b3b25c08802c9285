-- What is proved of every run, as statements.
pub mod Reader
pub mod Isolation
pub mod Faults
pub mod Demands
pub mod Calls
pub mod Rules
pub mod Ancestors
pub mod Existence
