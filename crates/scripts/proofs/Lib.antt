pub mod Laws
pub mod Sums
pub mod Examples
pub mod Making
