pub mod Computing
pub mod Examples
pub mod Layouts
pub mod Runs
pub mod Orders
pub mod Existence
pub mod Laws
