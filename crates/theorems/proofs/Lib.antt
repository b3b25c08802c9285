pub mod Laws
pub mod Faults
pub mod Demands
pub mod Calls
pub mod Readers
pub mod Rules
pub mod Ancestors
pub mod Existence
