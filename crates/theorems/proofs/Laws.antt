-- Laws of the runs, in the order of the chain that ends in the demands.
pub mod Seen
pub mod Confluence
pub mod Steps
pub mod Invariant
pub mod Order
pub mod Safe
pub mod Deep
pub mod Reader
pub mod Code
