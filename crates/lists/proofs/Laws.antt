-- Laws of the definitions: what the proofs of the crates above cite.
pub mod Range
pub mod Numbered
pub mod Lists
pub mod Rising
pub mod Fill
pub mod Choice
pub mod Changed
pub mod Each
pub mod Outside
pub mod Placed
pub mod Ranges
