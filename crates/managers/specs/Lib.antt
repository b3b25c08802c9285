-- What the contracts of the code's manager cite.
pub mod Manager
pub mod Steps
