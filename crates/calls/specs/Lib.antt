-- What a reader must believe of a call, in the order of document 01.
pub mod Entries
pub mod Refusals
pub mod Reader
pub mod Page
