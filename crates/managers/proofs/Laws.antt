-- Laws of the code's manager.
pub mod Leads
pub mod Turns
pub mod Advance
pub mod Closing
pub mod Done
pub mod Changes
