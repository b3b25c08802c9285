-- Laws of what is counted of each level.
pub mod First
pub mod Closed
pub mod Changed
pub mod Numbers
