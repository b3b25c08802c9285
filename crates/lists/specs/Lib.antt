-- What the definitions of all crates are made of.
pub mod Range
pub mod Changed
pub mod Lists
pub mod Each
pub mod Outside
pub mod Placed
