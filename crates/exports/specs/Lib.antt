-- What the contracts of the exported entries cite.
pub mod Calls
